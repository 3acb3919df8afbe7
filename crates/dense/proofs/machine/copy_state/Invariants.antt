use Rattle.std.proofs.Common.{◌≡◌, ℕ, ◌<◌, length, get_or}
use Rattle.dense.specs.Rows.{none}
use Rattle.dense.specs.Copies.{Successors}
use Rattle.dense.proofs.machine.copy_state.Given as goal

abbrev pub invariant-loop-label : goal.invariant-loop-label
invariant-loop-label g l =
    (length l.row-items ≡ 65) × ((k : ℕ) → k < l.label → Successors (g.S.Source.means l.source) l.p k (get_or l.row-items k none))
