use Rattle.std.proofs.Common.{◌==◌, ap, ◌∙◌, rules}
use Rattle.std.specs.Option.{option_map}
use Rattle.std.proofs.lemmas.Iterator.Splits.{YieldsList-from_slice_split}
use Rattle.labels.specs.declared.NameSet.{NameSet}
use Rattle.table.specs.Text.{pieces}
use Rattle.table.proofs.Folds.{folded}
use Rattle.commands.proofs.Listed.{step, step_is, names_fold}
use Rattle.commands.proofs.names.list_names.Goals as goal
use borrow.Author.Tests.{tests}

pub returns : goal.returns
returns c =
    let r = c.try_fold.ensures.ran in
    let s = c.split.ensures in
    ap (option_map (λ (t : NameSet). t.0))
    (folded _ (λ x. x.now) step (λ f n x r q k. step_is n x.now r (search rules)) _ _ _ _ _ _ _ _ _ r.4 r.5 r.6 (YieldsList-from_slice_split _ (λ b. b == 44) c.args.word.now s.rest s.done s.closure (λ x b q k. search (rules, tests))))
    ∙ names_fold (record { 0 = 0 }) (pieces 44 c.args.word.now)
