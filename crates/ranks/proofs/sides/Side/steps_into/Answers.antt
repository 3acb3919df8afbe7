use Rattle.std.proofs.Common.{Bool, ◌&&◌, get_or, ap, ◌∙◌, arith, rules}
use Rattle.std.proofs.lemmas.Bool.{lt-ltb}
use Rattle.lts.specs.Machines.{some_below}
use Rattle.dense.specs.Copies.{meaning}
use Rattle.dense.specs.Rows.{in_row, none}
use Rattle.dense.specs.Sounds.{meaning_sound}
use Rattle.ranks.specs.Steps.{in_rows}
use Rattle.ranks.proofs.Stepping.{meets_before}
use Rattle.ranks.proofs.sides.Side.steps_into.Goals as goal

pub returns : goal.returns
returns c = λ p h.
    let s = c.args.self.now in
    let M = meaning s.machine.now in
    let few = (meaning_sound s.machine.now).small in
    let n = s.sized in
    c.of.ensures.by_test (λ q. some_below 256 (λ t. in_rows s.closure q t && in_row c.before-before.result t)) (λ q b k l e. search rules) p (omega arith)
    ∙ ap (λ (b : Bool). b && some_below 256 (λ t. in_rows s.closure p t && in_row c.before-before.result t)) (lt-ltb p s.size h)
    ∙ meets_before M c.args.label p (in_row c.args.states) (get_or s.closure p none) c.before-before.result few (λ t l. s.closed p t (omega arith) l) c.before-before.ensures
