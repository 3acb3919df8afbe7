-- Ranks that are written.
use Rattle.std.specs.Prelude.{◌≡◌, ℕ, ◌+◌, ◌*◌, ◌<◌, Bool, cond, List, length}
use Rattle.clauses.specs.Ranks.{rank_at}

-- of the ranks, m in a row, those that are hit are k and the others as they were
pub record Marked (m k : ℕ) (hit : ℕ → ℕ → Bool) (was w : List ℕ) : Type 0 where
  pub len : length w ≡ length was
  pub ranks : (a b : ℕ) → b < m → rank_at w (a * m + b) ≡ cond (hit a b) k (rank_at was (a * m + b))
