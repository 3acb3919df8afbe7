-- The pairs that stand after enough rounds are the largest relation that meets the clauses.
use Rattle.std.proofs.Common.{◌≡◌, ℕ, zero, suc, ◌+◌, ◌-◌, ◌*◌, ◌/◌, ◌%◌, ◌<◌, ◌≤◌, Bool, true, false, not, T, subst, subst₂, mul-le-mul_right, suc-mul, suc-add, zero-add, arith}
use native.Mathlib.Decide.{dec_lt}
use lib.Arith.{digits_div, digits_mod}
use Rattle.lts.proofs.Tests.{Tells, both, both_0, both_1, tells_self, tells_and, tells_implies, tells_ltb, tells_iff, tells_some, tells_each}
use Rattle.lts.proofs.Readings.{tells_tau_reaches, tells_weak_step, tells_stable, tells_initial, reaches_in}
use Rattle.lts.proofs.Coverings.{covered_weak, refusals_of, refusals_tested, refusals_decided}
use Rattle.lts.proofs.Chain.{steady}
use Rattle.lts.specs.Conformance.{MachineConforms, MachineMeets, covers, largest, passes, passes_moves, passes_refusals, standing}
use Rattle.lts.specs.Covering.{Covered, TestedRefusals, Witness}
use Rattle.lts.specs.Laws.{IsLargest}
use Rattle.lts.specs.Machines.{Machine, system_of, initial}
use Rattle.lts.specs.Systems.{Conforms, Initial, Meets, ReadyOn, Stable, TauReaches, WeakStep}
use Rattle.lts.proofs.Proper.{Proper}

module _ (M N : Machine) (s : Proper M) (u : Proper N) where
  -- one round
  abbrev Moves : (ℕ → ℕ → Type 0) → ℕ → ℕ → Type 0
  Moves S p q = (l : ℕ) → l < 64 → (p' : ℕ) → WeakStep (system_of M) p l p' → (q' : ℕ) × WeakStep (system_of N) q l q' × S p' q'

  weak_step_in : (L : Machine) → Proper L → (p l q : ℕ) → WeakStep (system_of L) p l q → q < L.size
  weak_step_in L k p l q y = k.to_in y.0 l q y.2

  tells_moves : (S : ℕ → ℕ → Bool) (p q : ℕ) → Tells (passes_moves M N S p q) (Moves (λ a b. T (S a b)) p q)
  unfolding passes_moves
  tells_moves S p q = tells_iff
      (tells_each 64 _ (λ l. (p' : ℕ) → p' < M.size → WeakStep (system_of M) p l p' →
      (q' : ℕ) × (q' < N.size) × (WeakStep (system_of N) q l q' × T (S p' q')))
      (λ l _. tells_each M.size _ (λ p'. WeakStep (system_of M) p l p' →
      (q' : ℕ) × (q' < N.size) × (WeakStep (system_of N) q l q' × T (S p' q')))
      (λ p' _. tells_implies (tells_weak_step M s p l p')
      (tells_some N.size _ (λ q'. WeakStep (system_of N) q l q' × T (S p' q'))
      (λ q' _. tells_and (tells_weak_step N u q l q') (tells_self (S p' q')))))))
      (λ h l v p' y. let r = h l v p' (weak_step_in M s p l p' y) y in (r.0, r.2.0, r.2.1))
      (λ h l v p' _ y. let r = h l v p' y in (r.0, weak_step_in N u q l r.0 r.1, (r.1, r.2)))

  abbrev Covers : ℕ → ℕ → ℕ → Type 0
  Covers p' y q' = Stable (system_of N) q' × (((l : ℕ) → l < 64 → Initial (system_of N) q' l → Initial (system_of M) p' l) × ReadyOn (system_of N) q' y)

  tells_covers : (p' y q' : ℕ) → q' < N.size → Tells (covers M N p' y q') (Covers p' y q')
  unfolding covers
  tells_covers p' y q' i =
      tells_and (tells_stable N u q' i)
      (tells_and
      (tells_each 64 _ (λ l. Initial (system_of N) q' l → Initial (system_of M) p' l)
      (λ l _. tells_implies (tells_initial N u q' l) (tells_initial M s p' l)))
      (tells_implies (tells_ltb y 64) (tells_initial N u q' y)))

  tells_refusals_raw : (p q : ℕ) → Tells (passes_refusals M N p q)
      ((p' : ℕ) → p' < M.size → (y : ℕ) → y < 65 → TauReaches (system_of M) p p' × (Stable (system_of M) p' × ReadyOn (system_of M) p' y) →
      (q' : ℕ) × (q' < N.size) × (TauReaches (system_of N) q q' × Covers p' y q'))
  unfolding passes_refusals
  tells_refusals_raw p q =
      tells_each M.size _ (λ p'. (y : ℕ) → y < 65 → TauReaches (system_of M) p p' × (Stable (system_of M) p' × ReadyOn (system_of M) p' y) →
      (q' : ℕ) × (q' < N.size) × (TauReaches (system_of N) q q' × Covers p' y q'))
      (λ p' i. tells_each 65 _ (λ y. TauReaches (system_of M) p p' × (Stable (system_of M) p' × ReadyOn (system_of M) p' y) →
      (q' : ℕ) × (q' < N.size) × (TauReaches (system_of N) q q' × Covers p' y q'))
      (λ y _. tells_implies
      (tells_and (tells_tau_reaches M s p p')
      (tells_and (tells_stable M s p' i) (tells_implies (tells_ltb y 64) (tells_initial M s p' y))))
      (tells_some N.size _ (λ q'. TauReaches (system_of N) q q' × Covers p' y q')
      (λ q' j. tells_and (tells_tau_reaches N u q q') (tells_covers p' y q' j)))))

  tells_refusals : (p q : ℕ) → p < M.size → q < N.size → Tells (passes_refusals M N p q) (Covered (system_of M) (system_of N) p q)
  tells_refusals p q a b = tells_iff (tells_refusals_raw p q) to of
    where
      Raw : Type 0
      Raw = (p' : ℕ) → p' < M.size → (y : ℕ) → y < 65 → TauReaches (system_of M) p p' × (Stable (system_of M) p' × ReadyOn (system_of M) p' y) →
          (q' : ℕ) × (q' < N.size) × (TauReaches (system_of N) q q' × Covers p' y q')

      to : Raw → Covered (system_of M) (system_of N) p q
      to h p' d k y r = go (dec_lt y 64)
        where
          go : Dec (y < 64) → Witness (system_of M) (system_of N) p' y q
          go (yes v) = let e = h p' (reaches_in M s d a) y (omega arith) (d, (k, r)) in record {
            place = e.0;
            reaches = e.2.0;
            stable = e.2.1.0;
            inside = e.2.1.1.0;
            ready = e.2.1.1.1;
          }
          go (no v) = let e = h p' (reaches_in M s d a) 64 (omega arith) (d, (k, λ w. absurd (omega arith))) in record {
            place = e.0;
            reaches = e.2.0;
            stable = e.2.1.0;
            inside = e.2.1.1.0;
            ready = λ w. absurd (v w);
          }

      of : Covered (system_of M) (system_of N) p q → Raw
      of h p' _ y _ k = let e = h p' k.0 k.1.0 y k.1.1 in
          (e.place, reaches_in N u e.reaches b, (e.reaches, (e.stable, (e.inside, e.ready))))

  tells_passes : (S : ℕ → ℕ → Bool) (p q : ℕ) → p < M.size → q < N.size →
      Tells (passes M N S p q) (Moves (λ a b. T (S a b)) p q × Covered (system_of M) (system_of N) p q)
  unfolding passes
  tells_passes S p q a b = tells_and (tells_moves S p q) (tells_refusals p q a b)

  -- rounds
  standing_in : (k p q : ℕ) → T (standing M N k p q) → (p < M.size) × (q < N.size)
  unfolding standing
  standing_in zero p q h = (tells_and (tells_ltb p M.size) (tells_ltb q N.size)).to h
  standing_in (suc k) p q h = standing_in k p q (both_0 (standing M N k p q) (passes M N (standing M N k) p q) h)

  standing_before : (k p q : ℕ) → T (standing M N (suc k) p q) → T (standing M N k p q)
  unfolding standing
  standing_before k p q h = both_0 (standing M N k p q) (passes M N (standing M N k) p q) h

  standing_passes : (k p q : ℕ) → T (standing M N (suc k) p q) → T (passes M N (standing M N k) p q)
  unfolding standing
  standing_passes k p q h = both_1 (standing M N k p q) (passes M N (standing M N k) p q) h

  standing_next : (k p q : ℕ) → T (standing M N k p q) → T (passes M N (standing M N k) p q) → T (standing M N (suc k) p q)
  unfolding standing
  standing_next k p q h g = both (standing M N k p q) (passes M N (standing M N k) p q) h g

  passes_more : (S U : ℕ → ℕ → Bool) → ((p q : ℕ) → T (S p q) → T (U p q)) → (p q : ℕ) → p < M.size → q < N.size →
      T (passes M N S p q) → T (passes M N U p q)
  passes_more S U i p q a b h =
      let e = (tells_passes S p q a b).to h in
      (tells_passes U p q a b).of
      ((λ l v p' y. let r = e.0 l v p' y in (r.0, r.1, i p' r.0 r.2)), e.1)

  abbrev Keeps : ℕ → Type 0
  Keeps k = (p q : ℕ) → T (standing M N k p q) → T (standing M N (suc k) p q)

  keeps_next : (k : ℕ) → Keeps k → Keeps (suc k)
  keeps_next k h p q t =
      let i = standing_in (suc k) p q t in
      standing_next (suc k) p q t
      (passes_more (standing M N k) (standing M N (suc k)) h p q i.0 i.1 (standing_passes k p q t))

  -- pairs as numbers
  gone : ℕ → ℕ → Bool
  gone k i = not (standing M N k (i / N.size) (i % N.size))

  code_below : (p q : ℕ) → p < M.size → q < N.size → p * N.size + q < M.size * N.size
  code_below p q a b =
      let z : suc p * N.size ≤ M.size * N.size = mul-le-mul_right N.size a in
      omega (arith, z, suc-mul p N.size)

  not_back : (a b : Bool) → (T (not b) → T (not a)) → T a → T b
  not_back a true h t = tt
  not_back true false h t = h tt
  not_back false false h t = t

  not_forth : (a b : Bool) → (T a → T b) → T (not b) → T (not a)
  not_forth true true h t = t
  not_forth true false h t = h tt
  not_forth false b h t = tt

  keeps_of : (k : ℕ) → ((i : ℕ) → i < M.size * N.size → T (gone (suc k) i) → T (gone k i)) → Keeps k
  unfolding gone
  keeps_of k h p q t =
      let e = standing_in k p q t in
      let c : ℕ = p * N.size + q in
      let g : T (standing M N k (c / N.size) (c % N.size)) → T (standing M N (suc k) (c / N.size) (c % N.size)) =
      not_back (standing M N k (c / N.size) (c % N.size)) (standing M N (suc k) (c / N.size) (c % N.size))
      (h c (code_below p q e.0 e.1)) in
      subst₂ (λ (a b : ℕ). T (standing M N k a b) → T (standing M N (suc k) a b))
      (digits_div p e.1) (digits_mod p e.1) g t

  gone_grows : (k i : ℕ) → T (gone k i) → T (gone (suc k) i)
  unfolding gone
  gone_grows k i = not_forth (standing M N (suc k) (i / N.size) (i % N.size)) (standing M N k (i / N.size) (i % N.size))
      (standing_before k (i / N.size) (i % N.size))

  gone_lasts : (k : ℕ) → ((i : ℕ) → i < M.size * N.size → T (gone (suc k) i) → T (gone k i)) →
      (i : ℕ) → i < M.size * N.size → T (gone (suc (suc k)) i) → T (gone (suc k) i)
  unfolding gone
  gone_lasts k h i _ = not_forth (standing M N (suc k) (i / N.size) (i % N.size))
      (standing M N (suc (suc k)) (i / N.size) (i % N.size))
      (keeps_next k (keeps_of k h) (i / N.size) (i % N.size))

  pub keeps_last : Keeps (M.size * N.size)
  keeps_last = keeps_of (M.size * N.size) (steady (M.size * N.size) gone gone_grows gone_lasts)

  keeps_after : (j : ℕ) → Keeps (j + M.size * N.size)
  keeps_after zero = rw zero-add keeps_last
  keeps_after (suc j) = rw suc-add (keeps_next (j + M.size * N.size) (keeps_after j))

  settles_by : (j p q : ℕ) → T (largest M N p q) → T (standing M N (j + M.size * N.size) p q)
  settles_by zero p q h = rw zero-add h
  settles_by (suc j) p q h = rw suc-add (keeps_after j p q (settles_by j p q h))

  settles : (k : ℕ) → M.size * N.size ≤ k → (p q : ℕ) → T (largest M N p q) → T (standing M N k p q)
  settles k l p q h =
      let e : (k - M.size * N.size) + M.size * N.size ≡ k = omega arith in
      subst (λ (i : ℕ). T (standing M N i p q)) e (settles_by (k - M.size * N.size) p q h)

  -- at every pair that stands at the end both clauses hold
  last_passes : (p q : ℕ) → T (largest M N p q) →
      Moves (λ a b. T (largest M N a b)) p q × Covered (system_of M) (system_of N) p q
  last_passes p q h =
      let i = standing_in (M.size * N.size) p q h in
      (tells_passes (largest M N) p q i.0 i.1).to (standing_passes (M.size * N.size) p q (keeps_last p q h))

  pub largest_meets : Meets (system_of M) (system_of N) (λ p q. T (largest M N p q))
  largest_meets = record {
    moves = λ p q h. (last_passes p q h).0;
    refusals = λ p q h. refusals_of (system_of M) (system_of N) p q (covered_weak (system_of M) (system_of N) p q (last_passes p q h).1);
  }

  pub largest_meets_tested : MachineMeets M N (largest M N)
  largest_meets_tested = record {
    moves = λ p q h. (last_passes p q h).0;
    refusals = λ p q h. refusals_tested (system_of M) (system_of N) p q (largest_meets.refusals p q h);
  }

  -- a relation of any kind whose pairs sync both clauses stands through every round
  module _ (R : ℕ → ℕ → Type 0) (moves : (p q : ℕ) → R p q → Moves R p q)
      (refusals : (p q : ℕ) → R p q → TestedRefusals (system_of M) (system_of N) p q) where
    stands : (k p q : ℕ) → p < M.size → q < N.size → R p q → T (standing M N k p q)
    unfolding standing
    stands zero p q a b r = (tells_and (tells_ltb p M.size) (tells_ltb q N.size)).of (a, b)
    stands (suc k) p q a b r =
        standing_next k p q (stands k p q a b r)
        ((tells_passes (standing M N k) p q a b).of (
          (λ l v p' y. let e = moves p q r l v p' y in
              (e.0, e.1, stands k p' e.0 (weak_step_in M s p l p' y) (weak_step_in N u q l e.0 e.1) e.2)),
          refusals_decided (system_of M) (system_of N) p q (initial M) (tells_initial M s) (refusals p q r),
        ))

  pub holds_each : (R : ℕ → ℕ → Bool) → MachineMeets M N R → (p q : ℕ) → p < M.size → q < N.size → T (R p q) → T (largest M N p q)
  holds_each R m p q a b r =
      stands (λ x y. T (R x y)) m.moves m.refusals (M.size * N.size) p q a b r

  pub is_largest : IsLargest M N
  is_largest = record { meets = largest_meets_tested; holds = holds_each }

  pub decided : (T (largest M N M.start N.start) → MachineConforms M N) × (MachineConforms M N → T (largest M N M.start N.start))
  decided = (
    (λ h. record { by = largest M N; meets = largest_meets_tested; starts = h }),
    (λ c. holds_each c.by c.meets M.start N.start s.start_in u.start_in c.starts),
  )

  -- the two notions of conformance agree
  pub systems_conform : MachineConforms M N → Conforms (system_of M) (system_of N)
  systems_conform c = record {
    by = λ p q. T (largest M N p q);
    meets = largest_meets;
    starts = decided.1 c;
  }

  pub machines_conform : Conforms (system_of M) (system_of N) → MachineConforms M N
  machines_conform c = decided.0
      (stands c.by c.meets.moves (λ p q r. refusals_tested (system_of M) (system_of N) p q (c.meets.refusals p q r))
      (M.size * N.size) M.start N.start s.start_in u.start_in c.starts)

  -- for code that takes pairs away one by one, in any order
  pub largest_passes : (S : ℕ → ℕ → Bool) → ((p q : ℕ) → T (largest M N p q) → T (S p q)) →
      (p q : ℕ) → T (largest M N p q) → T (passes M N S p q)
  largest_passes S i p q h =
      let e = standing_in (M.size * N.size) p q h in
      passes_more (largest M N) S i p q e.0 e.1 (standing_passes (M.size * N.size) p q (keeps_last p q h))

  pub passing_inside : (S : ℕ → ℕ → Bool) →
      ((p q : ℕ) → T (S p q) → (p < M.size) × (q < N.size) × T (passes M N S p q)) →
      (p q : ℕ) → T (S p q) → T (largest M N p q)
  passing_inside S h p q t =
      stands (λ x y. T (S x y)) (λ x y r. ((tells_passes S x y (h x y r).0 (h x y r).1).to (h x y r).2).0)
      (λ x y r. refusals_tested (system_of M) (system_of N) x y (refusals_of (system_of M) (system_of N) x y
      (covered_weak (system_of M) (system_of N) x y ((tells_passes S x y (h x y r).0 (h x y r).1).to (h x y r).2).1)))
      (M.size * N.size) p q (h p q t).0 (h p q t).1 t

  -- for code that keeps the matrix of each round, and stops when a round takes nothing away
  stands_always : (k : ℕ) (R : ℕ → ℕ → Bool) → ((p q : ℕ) → T (R p q) → (p < M.size) × (q < N.size) × T (passes M N R p q)) →
      (p q : ℕ) → T (R p q) → T (standing M N k p q)
  unfolding standing
  stands_always zero R h p q t = (tells_and (tells_ltb p M.size) (tells_ltb q N.size)).of ((h p q t).0, (h p q t).1)
  stands_always (suc k) R h p q t =
      standing_next k p q (stands_always k R h p q t)
      (passes_more R (standing M N k) (stands_always k R h) p q (h p q t).0 (h p q t).1 (h p q t).2)

  pub largest_stands : (k p q : ℕ) → T (largest M N p q) → T (standing M N k p q)
  largest_stands k = stands_always k (largest M N) (λ p q t.
      let e = standing_in (M.size * N.size) p q t in
      (e.0, e.1, standing_passes (M.size * N.size) p q (keeps_last p q t)))

  pub early : (k : ℕ) → Keeps k → (p q : ℕ) → T (standing M N k p q) → T (largest M N p q)
  early k h = stands_always (M.size * N.size) (standing M N k) (λ p q t.
      let e = standing_in k p q t in
      (e.0, e.1, standing_passes k p q (h p q t)))
