-- Rounds, as lists of ranks: rank p * m + q is 0 while the pair (p, q) stands, and else the round that struck it.
use Rattle.std.specs.Prelude.{ℕ, zero, suc, ◌+◌, ◌*◌, ◌/◌, ◌%◌, Bool, cond, not, ◌&&◌, List, map, drop, replicate, ◌==◌, slice_index}
use Rattle.std.specs.List.{range_with_len}
use Rattle.lts.specs.Machines.{Machine, some_below}
use Rattle.lts.specs.Conformance.{passes}
use Rattle.clauses.specs.Ranks.{rank_at}
use Rattle.clauses.specs.Workspaces.{pairs, base}

-- the pairs that stand
abbrev pub stands : Machine → List ℕ → ℕ → ℕ → Bool
stands N ranks p q = slice_index ranks (p * N.size + q) == 0

-- pair i stands, and does not pass against all that stand
unfoldable pub strikes_at : Machine → Machine → List ℕ → ℕ → Bool
strikes_at M N ranks i = slice_index ranks i == 0 && not (passes M N (stands N ranks) (i / N.size) (i % N.size))

-- round k
unfoldable pub strike : Machine → Machine → ℕ → List ℕ → List ℕ
strike M N k ranks = map (λ i. cond (strikes_at M N ranks i) k (slice_index ranks i)) (range_with_len 0 (pairs M N))

-- before the first round all pairs stand
unfoldable pub ranks_after : Machine → Machine → ℕ → List ℕ
ranks_after M N zero = replicate (pairs M N) 0
ranks_after M N (suc k) = strike M N (suc k) (ranks_after M N k)

-- a further round strikes some pair
unfoldable pub strikes : Machine → Machine → List ℕ → Bool
strikes M N ranks = some_below (pairs M N) (strikes_at M N ranks)

unfoldable pub last_from : Machine → Machine → ℕ → ℕ → ℕ
last_from M N zero k = k
last_from M N (suc f) k = cond (strikes M N (ranks_after M N k)) (last_from M N f (suc k)) k

-- the last round that strikes a pair: there are no more of them than pairs
unfoldable pub last_round : Machine → Machine → ℕ
last_round M N = last_from M N (pairs M N) 0

unfoldable pub final_ranks : Machine → Machine → List ℕ
final_ranks M N = ranks_after M N (last_round M N)

-- the ranks that bytes hold
unfoldable pub ranks_of : Machine → Machine → List ℕ → List ℕ
ranks_of M N bytes = map (rank_at bytes) (range_with_len 0 (pairs M N))

-- those of a workspace
unfoldable pub ranks_in : Machine → Machine → List ℕ → List ℕ
ranks_in M N w = ranks_of M N (drop (base M N) w)
