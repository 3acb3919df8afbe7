-- The ranks that a workspace holds.
use Rattle.std.proofs.Common.{◌≡◌, ℕ, ◌+◌, ◌-◌, ◌*◌, ◌<◌, List, length, get_or, take, drop, ap, ◌∙◌, arith}
use Rattle.std.proofs.lemmas.List.FromFn.{get_or-map-range_with_len, length-map-range_with_len}
use Rattle.lts.specs.Machines.{Machine}
use Rattle.closure.proofs.Parts.{part_end}
use Rattle.clauses.specs.Ranks.{rank_at}
use Rattle.clauses.specs.Workspaces.{pairs, base}
use Rattle.clauses.proofs.Reading.{base_same}
use Rattle.ranks.specs.Rounds.{ranks_of, ranks_in}

-- the ranks, and what is behind them
abbrev pub ranks_part : Machine → Machine → List ℕ → List ℕ
ranks_part M N w = drop (base M N) w

module _ (M N : Machine) where
  pub rank_of : (bytes : List ℕ) (i : ℕ) → i < pairs M N → get_or (ranks_of M N bytes) i 0 ≡ rank_at bytes i
  unfolding ranks_of
  rank_of bytes i h = get_or-map-range_with_len (rank_at bytes) 0 (pairs M N) i i 0 h (omega arith)

  -- as many ranks as pairs
  pub length_of : (bytes : List ℕ) → length (ranks_of M N bytes) ≡ pairs M N
  unfolding ranks_of
  length_of bytes = length-map-range_with_len _ 0 (pairs M N)

  -- the same of a workspace
  pub ranks_at : (w : List ℕ) (i : ℕ) → i < pairs M N → get_or (ranks_in M N w) i 0 ≡ rank_at (ranks_part M N w) i
  unfolding ranks_in
  ranks_at w i h = rank_of (ranks_part M N w) i h

  pub length_in : (w : List ℕ) → length (ranks_in M N w) ≡ pairs M N
  unfolding ranks_in
  length_in w = length_of (ranks_part M N w)

  -- the part that the code cuts
  pub part_same : (n m : ℕ) (w : List ℕ) → n ≡ M.size → m ≡ N.size → take (length w - (n * n + m * m)) (drop (n * n + m * m) w) ≡ ranks_part M N w
  part_same n m w en em = part_end (n * n + m * m) w ∙ ap (λ (x : ℕ). drop x w) (base_same M N n m en em)
