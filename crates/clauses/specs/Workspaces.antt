-- A workspace: the closure of the module, that of the contract, then the ranks.
use Rattle.std.specs.Prelude.{◌≡◌, ℕ, ◌+◌, ◌*◌, ◌<◌, ◌≤◌, Bool, false, cond, ◌&&◌, List, length, drop, None, Option, nat_le, nat_lt}
use Rattle.lts.specs.Machines.{Machine}
use Rattle.closure.specs.Sheets.{cells, Closed}
use Rattle.clauses.specs.Ranks.{reads, row_reads, rank_at, stood_by}
use Rattle.clauses.specs.Candidates.{first_by}
use Rattle.clauses.specs.declared.counterexample.Counterexample.{Counterexample}

abbrev pub pairs : Machine → Machine → ℕ
pairs M N = M.size * N.size

-- where the ranks begin
abbrev pub base : Machine → Machine → ℕ
base M N = cells M + cells N

-- the closures are there, and so is room for the ranks
pub record Prepared (M N : Machine) (w : List ℕ) : Type 0 where
  pub room : base M N + 2 * pairs M N ≤ length w
  pub first : Closed M w
  pub second : Closed N (drop (cells M) w)

-- the sheet begins with no closure that has a row for p
abbrev pub NoRow : Machine → List ℕ → ℕ → Type 0
NoRow M sheet p = (nat_lt p M.size && nat_le (cells M) (length sheet)) ≡ false

-- the row of state p in the closure that the sheet begins with
pub record RowOf (M : Machine) (sheet : List ℕ) (p : ℕ) (row : List ℕ) : Type 0 where
  pub state : p < M.size
  pub room : cells M ≤ length sheet
  pub same : (q : ℕ) → q < M.size → row_reads row p q ≡ reads sheet M.size p q

-- the pairs that stood before round k
abbrev pub stood_in : Machine → Machine → ℕ → List ℕ → ℕ → ℕ → Bool
stood_in M N k w a b = stood_by k (rank_at (drop (base M N) w) (a * N.size + b))

-- the first candidate of a pair that fails, by what the workspace holds; none where it has no room for closures and ranks, or where there is no such pair
unfoldable pub first_in : Machine → Machine → List ℕ → ℕ → ℕ → ℕ → Option Counterexample
first_in M N w k p q =
    cond (nat_lt p M.size && (nat_lt q N.size && nat_le (base M N + 2 * pairs M N) (length w)))
    (first_by M N (reads w M.size) (reads (drop (cells M) w) N.size) (stood_in M N k w) p q) None
