use Rattle.std.proofs.Common.{◌≡◌, ℕ, ◌<◌, length, get_or}
use Rattle.ranks.proofs.states.by_state.Given as goal

abbrev pub invariant-loop-p : goal.invariant-loop-p
invariant-loop-p g l = (length l.element-items ≡ l.n) × ((k : ℕ) → k < l.p → (d : g.row.T.Denot) → goal.F-post g l.f k (get_or l.element-items k d))
