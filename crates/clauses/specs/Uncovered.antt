-- Rests of the module that a state of the contract does not cover.
use Rattle.std.specs.Prelude.{ℕ, Bool, ◌&&◌, List, length, is_some, nat_le, nat_lt}
use Rattle.lts.specs.Machines.{Machine, stable}
use Rattle.closure.specs.Sheets.{cells}
use Rattle.clauses.specs.Ranks.{reads}
use Rattle.clauses.specs.Candidates.{first_rest_at}

-- p is stable, and with some label or none q comes to rest nowhere that covers it
unfoldable pub uncovered_by : Machine → Machine → (ℕ → ℕ → Bool) → ℕ → ℕ → Bool
uncovered_by M N U q p = stable M p && is_some (first_rest_at M N U q p)

-- the same by a sheet; where it has no room for a closure, or q is no state, nothing is
abbrev pub uncovered_in : Machine → Machine → List ℕ → ℕ → ℕ → Bool
uncovered_in M N sheet q p = nat_lt q N.size && (nat_le (cells N) (length sheet) && uncovered_by M N (reads sheet N.size) q p)
