use Rattle.std.proofs.Common.{◌≡◌, ℕ, ◌<◌, ◌≤◌, false}
use Rattle.dense.specs.Rows.{in_row}
use Rattle.dense.proofs.row.Row.of.Given as goal

abbrev pub invariant-loop-state : goal.invariant-loop-state
invariant-loop-state g l =
    ((k : ℕ) → k < l.state → goal.F-post g l.f k (in_row l.found k)) × ((k : ℕ) → l.state ≤ k → k < 256 → in_row l.found k ≡ false)
