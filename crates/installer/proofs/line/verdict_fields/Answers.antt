use Rattle.std.proofs.Common.{take, codes, sym, ap, ◌∙◌}
use Rattle.table.specs.Write.{parted}
use Rattle.judge.specs.declared.verdict.Answer.{Answer}
use Rattle.installer.specs.Figures.{figure}
use Rattle.installer.specs.Lines.{failing_fields, answer_fields}
use Rattle.installer.proofs.Fields.{fields, no_parted}
use Rattle.installer.proofs.line.verdict_fields.Goals as goal

pub returns-in-Yes : goal.returns-in-Yes
returns-in-Yes c =
    let v = c.args.verdict in
    fields (codes "yes") (figure v.states) (figure v.others) (figure v.highest) (figure v.standing)
    c.of.ensures c.field.ensures c.field-in-Yes.ensures c.field-in-Yes-2.ensures c.field-in-Yes-3.ensures
    ∙ sym (ap (λ (a : Answer). take 40 (parted 44 (answer_fields v a))) c.in-Yes.is)

pub returns-in-No : goal.returns-in-No
returns-in-No c =
    let v = c.args.verdict in
    let x = c.in-No.counterexample in
    fields (codes "no") (figure v.states) (figure v.others) (figure c.in-No.round) (parted 44 (failing_fields x))
    c.of-in-No.ensures c.field-in-No.ensures c.field-in-No-2.ensures c.field-in-No-3.ensures c.failing.ensures
    ∙ ap (take 40) (no_parted v c.in-No.round x) ∙ sym (ap (λ (a : Answer). take 40 (parted 44 (answer_fields v a))) c.in-No.is)
