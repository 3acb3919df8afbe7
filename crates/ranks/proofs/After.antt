-- The ranks after each round, one by one, and the last round.
use Rattle.std.proofs.Common.{◌≡◌, ℕ, zero, suc, ◌+◌, ◌*◌, ◌/◌, ◌%◌, ◌<◌, ◌≤◌, true, false, cond, not, eqb, List, length, get_or, sym, ap, ◌∙◌, subst, subst₂, ⊎_elim, mul-zero, arith}
use lib.Arith.{digits_lt}
use lib.ListN.{length-replicate}
use Rattle.std.proofs.lemmas.List.FromFn.{get_or-map-range_with_len, length-map-range_with_len}
use Rattle.std.proofs.lemmas.List.{get_or-replicate}
use Rattle.std.proofs.lemmas.Nat.{div_below, mod_below, div-mul-add, mod-mul-add}
use Rattle.std.proofs.lemmas.Bool.{and_parts, and_from, eqb-true, cases_Bool, cases_eq, cond-true, cond-false, both_ways}
use Rattle.lts.specs.Machines.{Machine}
use Rattle.lts.specs.Conformance.{passes}
use Rattle.lts.specs.Some.{some_in, some_out}
use Rattle.clauses.specs.Workspaces.{pairs}
use Rattle.ranks.specs.Rounds.{stands, strikes_at, strike, ranks_after, strikes, last_from, last_round, final_ranks}
use Rattle.ranks.proofs.Counts.{marked, marked_full, marked_new}

module _ (M N : Machine) where
  pub some_column : (i : ℕ) → i < pairs M N → 0 < N.size
  some_column i h =
      ⊎_elim (λ (z : N.size ≡ 0). absurd (omega (arith, ap (λ (x : ℕ). M.size * x) z, mul-zero M.size)))
      (λ (z : N.size ≡ 0 → ⊥). omega arith) (cases_eq N.size 0)

  -- pair i is one of states
  pub row_in : (i : ℕ) → i < pairs M N → i / N.size < M.size
  row_in i h = div_below i N.size M.size (some_column i h) h

  -- of both machines
  pub column_in : (i : ℕ) → i < pairs M N → i % N.size < N.size
  column_in i h = mod_below i N.size (some_column i h)

  -- and the pair of two states has a number below
  pub pair_in : (p q : ℕ) → p < M.size → q < N.size → p * N.size + q < pairs M N
  pair_in p q a b = digits_lt a b

  -- the ranks, one by one
  pub length_ranks : (k : ℕ) → length (ranks_after M N k) ≡ pairs M N
  unfolding ranks_after strike
  length_ranks zero = length-replicate (pairs M N) 0
  length_ranks (suc k) = length-map-range_with_len _ 0 (pairs M N)

  -- at first all are 0
  pub ranks_none : (i : ℕ) → i < pairs M N → get_or (ranks_after M N 0) i 0 ≡ 0
  unfolding ranks_after
  ranks_none i h = get_or-replicate (pairs M N) i 0 0 h

  -- what a round does to one
  pub ranks_more : (k i : ℕ) → i < pairs M N → get_or (ranks_after M N (suc k)) i 0 ≡ cond (strikes_at M N (ranks_after M N k) i) (suc k) (get_or (ranks_after M N k) i 0)
  unfolding ranks_after strike
  ranks_more k i h = get_or-map-range_with_len (λ j. cond (strikes_at M N (ranks_after M N k) j) (suc k) (get_or (ranks_after M N k) j 0)) 0 (pairs M N) i i 0 h (omega arith)

  -- no rank is above its round
  pub ranks_small : (k i : ℕ) → i < pairs M N → get_or (ranks_after M N k) i 0 ≤ k
  ranks_small zero i h = omega (arith, ranks_none i h)
  ranks_small (suc k) i h =
      let e = ranks_more k i h in
      ⊎_elim
      (λ (t : strikes_at M N (ranks_after M N k) i ≡ true). omega (arith, cond-true (strikes_at M N (ranks_after M N k) i) (suc k) (get_or (ranks_after M N k) i 0) t))
      (λ (t : strikes_at M N (ranks_after M N k) i ≡ false). omega (arith, cond-false (strikes_at M N (ranks_after M N k) i) (suc k) (get_or (ranks_after M N k) i 0) t, ranks_small k i h))
      (cases_Bool (strikes_at M N (ranks_after M N k) i))

  -- a pair that is struck stays so
  ranks_kept : (k i : ℕ) → i < pairs M N → get_or (ranks_after M N (suc k)) i 0 ≡ 0 → get_or (ranks_after M N k) i 0 ≡ 0
  unfolding strikes_at
  ranks_kept k i h z =
      let b = ranks_after M N k in
      ⊎_elim
      (λ (t : strikes_at M N b i ≡ true). absurd (omega (arith, ranks_more k i h, cond-true (strikes_at M N b i) (suc k) (get_or b i 0) t)))
      (λ (t : strikes_at M N b i ≡ false). sym (ranks_more k i h ∙ cond-false (strikes_at M N b i) (suc k) (get_or b i 0) t) ∙ z)
      (cases_Bool (strikes_at M N b i))

  -- a round that strikes has one pair more struck
  pub ranks_grow : (k : ℕ) → strikes M N (ranks_after M N k) ≡ true
      → marked (pairs M N) (λ i. get_or (ranks_after M N k) i 0) < marked (pairs M N) (λ i. get_or (ranks_after M N (suc k)) i 0)
  unfolding strikes strikes_at
  ranks_grow k t =
      let b = ranks_after M N k in
      let o = some_out (pairs M N) (λ i. strikes_at M N b i) t in
      let i = o.0 in
      marked_new (pairs M N) (λ j. get_or b j 0) (λ j. get_or (ranks_after M N (suc k)) j 0) (λ j h z. ranks_kept k j h z) i o.1
      (eqb-true (get_or b i 0) 0 (and_parts (eqb (get_or b i 0) 0) (not (passes M N (stands N b) (i / N.size) (i % N.size))) o.2).0)
      (λ z. omega (arith, ranks_more k i o.1, cond-true (strikes_at M N b i) (suc k) (get_or b i 0) o.2))

  -- where all are struck, a further round strikes none
  pub ranks_full : (k : ℕ) → pairs M N ≤ marked (pairs M N) (λ i. get_or (ranks_after M N k) i 0) → strikes M N (ranks_after M N k) ≡ false
  unfolding strikes strikes_at
  ranks_full k f =
      let b = ranks_after M N k in
      ⊎_elim
      (λ (t : strikes M N b ≡ true).
      let o = some_out (pairs M N) (λ i. strikes_at M N b i) t in
      let i = o.0 in
      absurd (marked_full (pairs M N) (λ j. get_or b j 0) f i o.1
      (eqb-true (get_or b i 0) 0 (and_parts (eqb (get_or b i 0) 0) (not (passes M N (stands N b) (i / N.size) (i % N.size))) o.2).0)))
      (λ (t : strikes M N b ≡ false). t)
      (cases_Bool (strikes M N b))

  -- from round k on there is a round that strikes none
  stable_from : (f k : ℕ) → f + k ≡ pairs M N → k ≤ marked (pairs M N) (λ i. get_or (ranks_after M N k) i 0) → strikes M N (ranks_after M N (last_from M N f k)) ≡ false
  unfolding last_from
  stable_from zero k e h = ranks_full k (omega arith)
  stable_from (suc f) k e h =
      let b = ranks_after M N k in
      ⊎_elim
      (λ (t : strikes M N b ≡ true).
      subst (λ (j : ℕ). strikes M N (ranks_after M N j) ≡ false) (sym (cond-true (strikes M N b) (last_from M N f (suc k)) k t))
      (stable_from f (suc k) (omega arith) (omega (arith, ranks_grow k t))))
      (λ (t : strikes M N b ≡ false).
      subst (λ (j : ℕ). strikes M N (ranks_after M N j) ≡ false) (sym (cond-false (strikes M N b) (last_from M N f (suc k)) k t)) t)
      (cases_Bool (strikes M N b))

  -- a round after the last strikes none
  pub stable : strikes M N (final_ranks M N) ≡ false
  unfolding final_ranks last_round
  stable = stable_from (pairs M N) 0 (omega arith) (omega arith)

  -- for a loop: the first round after which none is struck
  last_from_is : (f j k : ℕ) → f + j ≡ pairs M N → j ≤ k → k ≤ pairs M N → ((i : ℕ) → i < k → strikes M N (ranks_after M N i) ≡ true)
      → strikes M N (ranks_after M N k) ≡ false → last_from M N f j ≡ k
  unfolding last_from
  last_from_is zero j k e h l some none = omega arith
  last_from_is (suc f) j k e h l some none =
      ⊎_elim
      (λ (t : j ≡ k). cond-false (strikes M N (ranks_after M N j)) (last_from M N f (suc j)) j (subst (λ (i : ℕ). strikes M N (ranks_after M N i) ≡ false) (sym t) none) ∙ t)
      (λ (t : j ≡ k → ⊥). cond-true (strikes M N (ranks_after M N j)) (last_from M N f (suc j)) j (some j (omega arith)) ∙ last_from_is f (suc j) k (omega arith) (omega arith) l some none)
      (cases_eq j k)

  -- the same from round 0 on
  pub last_is : (k : ℕ) → k ≤ pairs M N → ((i : ℕ) → i < k → strikes M N (ranks_after M N i) ≡ true)
      → strikes M N (ranks_after M N k) ≡ false → last_round M N ≡ k
  unfolding last_round
  last_is k l some none = last_from_is (pairs M N) 0 k (omega arith) (omega arith) l some none

  -- in ranks that no round changes each standing pair passes
  pub stable_passes : (b : List ℕ) → strikes M N b ≡ false → (p q : ℕ) → p < M.size → q < N.size → stands N b p q ≡ true
      → passes M N (stands N b) p q ≡ true
  unfolding strikes strikes_at
  stable_passes b e p q a c z =
      let i = p * N.size + q in
      ⊎_elim
      (λ (t : passes M N (stands N b) p q ≡ true). t)
      (λ (t : passes M N (stands N b) p q ≡ false).
      absurd (both_ways (strikes M N b) e (some_in (pairs M N) (λ j. strikes_at M N b j) i (pair_in p q a c)
      (and_from (eqb (get_or b i 0) 0) _ z
      (subst₂ (λ (x y : ℕ). not (passes M N (stands N b) x y) ≡ true)
      (sym (div-mul-add p N.size q c)) (sym (mod-mul-add p N.size q c)) (ap not t))))))
      (cases_Bool (passes M N (stands N b) p q))
