use Rattle.std.proofs.Common.{◌≡◌, ℕ, ◌<◌, ◌≤◌, length}
use Rattle.dense.specs.Copies.{row_at, Successors}
use Rattle.dense.proofs.machine.copy_rows.Given as goal

abbrev pub invariant-loop-p : goal.invariant-loop-p
invariant-loop-p g l =
    (length l.row-items ≡ l.n) × ((p k : ℕ) → p < l.p → k ≤ 64 → Successors (g.S.Source.means l.source) p k (row_at l.row-items p k))
