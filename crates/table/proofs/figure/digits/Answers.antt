use Rattle.std.proofs.Common.{◌∙◌, rules}
use Rattle.std.proofs.lemmas.Iterator.{YieldsList-from_slice}
use Rattle.table.proofs.Folds.{folded}
use Rattle.table.proofs.Figures.{longer, figure_folds}
use Rattle.table.proofs.figure.digits.Goals as goal

pub returns : goal.returns
returns c =
    let r = c.try_fold.ensures.ran in
    folded _ (λ x. x.now) longer (λ f n x r q k. search rules) _ _ _ _ _ _ _ _ _ r.4 r.5 r.6 (YieldsList-from_slice c.args.s.now c.iter.ensures.rest) ∙ figure_folds 0 c.args.s.now
