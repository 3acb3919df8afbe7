-- What is read from bytes: where silent moves lead, ranks, and what stood before a round.
use Rattle.std.specs.Prelude.{ℕ, ◌+◌, ◌*◌, Bool, cond, ◌||◌, List, length, ◌==◌, nat_le, nat_lt, slice_index}

-- byte p * n + q of a closure of n states is 1
abbrev pub reads : List ℕ → ℕ → ℕ → ℕ → Bool
reads sheet n p q = slice_index sheet (p * n + q) == 1

-- the same by the row of one state alone, whatever its number
abbrev pub row_reads : List ℕ → ℕ → ℕ → Bool
row_reads row _ q = slice_index row q == 1

-- rank i of a list of bytes: two bytes a rank, the low one first
abbrev pub rank_at : List ℕ → ℕ → ℕ
rank_at bytes i = slice_index bytes (2 * i) + 256 * slice_index bytes (2 * i + 1)

-- a pair of this rank stood before round k: it is not struck yet, or not before
abbrev pub stood_by : ℕ → ℕ → Bool
stood_by k rank = rank == 0 || nat_le k rank

-- pair (a, b) of those with m numbers b stood before round k
abbrev pub stood_at : ℕ → List ℕ → ℕ → ℕ → ℕ → Bool
stood_at k ranks m a b = stood_by k (rank_at ranks (a * m + b))

-- rank i where the list has room for it, and else 0
abbrev pub rank_in : List ℕ → ℕ → ℕ
rank_in bytes i = cond (nat_lt (2 * i + 1) (length bytes)) (rank_at bytes i) 0
