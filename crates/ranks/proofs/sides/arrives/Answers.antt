use Rattle.std.proofs.Common.{Bool, not, ◌||◌, eqb, ap, ◌∙◌, arith}
use Rattle.dense.specs.Copies.{meaning}
use Rattle.dense.specs.Rows.{in_row}
use Rattle.dense.specs.Sounds.{meaning_sound}
use Rattle.dense.proofs.Tests.{not_not}
use Rattle.ranks.proofs.Surveying.{arrives}
use Rattle.ranks.proofs.sides.arrives.Goals as goal

pub returns : goal.returns
returns c =
    let s = c.args.state in
    let d = c.args.module.now in
    let few = (meaning_sound d).small in
    ap not c.is_empty.ensures ∙ not_not _ ∙ arrives (meaning d) c.args.label s (in_row c.with.result) c.before-2.result (meaning_sound d)
    (λ v h. c.with.ensures v (omega arith) ∙ ap (λ (b : Bool). b || eqb s v) (c.empty.ensures v)) c.before-2.ensures
