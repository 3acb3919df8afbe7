-- Sets of labels as the bits of a number, taken apart from the lowest label up.
use Rattle.std.specs.Prelude.{◌≡◌, ℕ, ◌<◌, true, false, not, ◌&&◌, List, ◌==◌}
use Rattle.std.specs.List.{filter, range_with_len}
use Rattle.lts.specs.Labels.{member}

-- k is a label of x, and no label of x is below it
pub record Lowest (x k : ℕ) : Type 0 where
  pub visible : k < 64
  pub inside : member x k ≡ true
  pub none_below : (a : ℕ) → a < k → member x a ≡ false

-- y is x without its lowest label k
pub record Taken (x k y : ℕ) : Type 0 where
  pub lowest : Lowest x k
  pub rest : (a : ℕ) → a < 64 → member y a ≡ (member x a && not (k == a))
  pub fewer : y < x

-- the members below 64, lowest first
unfoldable pub members : ℕ → List ℕ
members x = filter (member x) (range_with_len 0 64)
