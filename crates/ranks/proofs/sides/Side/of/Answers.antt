use Rattle.std.proofs.Common.{◌≡◌, ◌&&◌, ltb, get_or, ◌∙◌, arith, rules}
use Rattle.clauses.specs.Ranks.{reads}
use Rattle.dense.specs.Copies.{meaning}
use Rattle.dense.specs.Rows.{in_row, none}
use Rattle.ranks.proofs.Surveying.{closure_read}
use Rattle.ranks.proofs.sides.Side.of.Goals as goal

pub invariant_of-result-clause-closed : goal.invariant_of-result-clause-closed
invariant_of-result-clause-closed c = λ p t h k.
    let e = c.requires.states in
    let call = c.by_state.ensures p none (omega arith) in
    let read : in_row (get_or c.by_state.result p none) t ≡ (ltb t c.args.size && reads c.args.sheet.now c.args.size p t) = search rules in
    read ∙ closure_read (meaning c.args.machine.now) c.args.sheet.now c.args.size p t e c.requires.closed h
