-- The ranks tell what stands, round by round, and at the end the largest relation.
use Rattle.std.proofs.Common.{◌≡◌, ℕ, zero, suc, ◌+◌, ◌*◌, ◌%◌, ◌<◌, Bool, true, false, cond, not, ◌&&◌, T, eqb, ltb, get_or, is_some, sym, refl, ap, ◌∙◌, subst, arith}
use Rattle.std.proofs.lemmas.Nat.{div-mul-add, mod-mul-add}
use Rattle.std.proofs.lemmas.Bool.{eq-eqb, ne_eqb, lt-ltb, ltb-true, and_from, and_parts}
use Rattle.lts.specs.Machines.{Machine, tau_reaches}
use Rattle.lts.specs.Conformance.{passes, standing, largest, MachineMeets}
use Rattle.lts.proofs.Proper.{Proper, is_true}
use Rattle.lts.proofs.Tests.{both, both_0}
use Rattle.lts.proofs.Largest.{early, largest_stands, largest_meets_tested, holds_each}
use Rattle.clauses.specs.Candidates.{first_failing}
use Rattle.clauses.proofs.Agreeing.{first_agrees}
use Rattle.clauses.proofs.Passing.{fails_exactly}
use Rattle.ranks.specs.Rounds.{stands, strikes_at, ranks_after, last_round, final_ranks}
use Rattle.ranks.proofs.After.{ranks_none, ranks_more, pair_in, stable, stable_passes}
use Rattle.judge.specs.Promises.{standing_pairs}

-- two tests of which neither passes alone
not_same : (a b : Bool) → not a ≡ not b → a ≡ b
not_same true true e = refl
not_same true false e = sym e
not_same false true e = sym e
not_same false false e = refl

-- a test of a pair looks at pairs of states alone
pub passes_agree : (M N : Machine) (S S' : ℕ → ℕ → Bool) (p q : ℕ) → ((a b : ℕ) → a < M.size → b < N.size → S a b ≡ S' a b) → passes M N S p q ≡ passes M N S' p q
unfolding first_failing
passes_agree M N S S' p q h =
    not_same (passes M N S p q) (passes M N S' p q)
    (sym (fails_exactly M N S p q)
    ∙ ap is_some (first_agrees M N p q (tau_reaches M) (tau_reaches M) (tau_reaches N) (tau_reaches N) S S' (λ t _. refl) (λ t _. refl) h)
    ∙ fails_exactly M N S' p q)

-- a pair that stands goes on standing if it passes
one_round : (k r : ℕ) (a b : Bool) → eqb r 0 ≡ a → eqb (cond (a && not b) (suc k) r) 0 ≡ (a && b)
one_round k r true true e = e
one_round k r true false e = ne_eqb (suc k) 0 (λ z. omega arith)
one_round k r false b e = e

module _ (M N : Machine) where
  pub standing_is : (k p q : ℕ) → p < M.size → q < N.size → stands N (ranks_after M N k) p q ≡ standing M N k p q
  unfolding standing strikes_at
  standing_is zero p q a b =
      eq-eqb (get_or (ranks_after M N 0) (p * N.size + q) 0) 0 (ranks_none M N (p * N.size + q) (pair_in M N p q a b))
      ∙ sym (and_from (ltb p M.size) (ltb q N.size) (lt-ltb p M.size a) (lt-ltb q N.size b))
  standing_is (suc k) p q a b =
      let i = p * N.size + q in
      let c = ranks_after M N k in
      ap (λ (x : ℕ). eqb x 0) (ranks_more M N k i (pair_in M N p q a b))
      ∙ ap (λ (x : ℕ). eqb (cond (eqb (get_or c i 0) 0 && not (passes M N (stands N c) x (i % N.size))) (suc k) (get_or c i 0)) 0) (div-mul-add p N.size q b)
      ∙ ap (λ (x : ℕ). eqb (cond (eqb (get_or c i 0) 0 && not (passes M N (stands N c) p x)) (suc k) (get_or c i 0)) 0) (mod-mul-add p N.size q b)
      ∙ one_round k (get_or c i 0) (eqb (get_or c i 0) 0) (passes M N (stands N c) p q) refl
      ∙ ap (λ (x : Bool). x && passes M N (stands N c) p q) (standing_is k p q a b)
      ∙ ap (λ (x : Bool). standing M N k p q && x) (passes_agree M N (stands N c) (standing M N k) p q (λ x y c d. standing_is k x y c d))

  -- what stands is a pair of states
  pub inside : (k p q : ℕ) → T (standing M N k p q) → (p < M.size) × (q < N.size)
  unfolding standing
  inside zero p q h =
      let b = and_parts (ltb p M.size) (ltb q N.size) (is_true _ h) in
      (ltb-true p M.size b.0, ltb-true q N.size b.1)
  inside (suc k) p q h = inside k p q (both_0 (standing M N k p q) (passes M N (standing M N k) p q) h)

  module _ (m : Proper M) (n : Proper N) where
    -- after the last round no round strikes
    keeps : (p q : ℕ) → T (standing M N (last_round M N) p q) → T (standing M N (suc (last_round M N)) p q)
    unfolding standing final_ranks
    keeps p q t =
        let k = last_round M N in
        let i = inside k p q t in
        let e : stands N (ranks_after M N k) p q ≡ true = standing_is k p q i.0 i.1 ∙ is_true _ t in
        both (standing M N k p q) (passes M N (standing M N k) p q) t
        (subst T (sym (sym (passes_agree M N (stands N (ranks_after M N k)) (standing M N k) p q (standing_is k)) ∙ stable_passes M N (ranks_after M N k) (stable M N) p q i.0 i.1 e)) tt)

    -- what stands at the end is in the largest relation
    pub to_largest : (p q : ℕ) → T (standing_pairs M N p q) → T (largest M N p q)
    unfolding standing_pairs final_ranks
    to_largest p q t =
        let k = last_round M N in
        let b = and_parts (ltb p M.size && ltb q N.size) (stands N (ranks_after M N k) p q) (is_true _ t) in
        let i = and_parts (ltb p M.size) (ltb q N.size) b.0 in
        early M N m n k keeps p q (subst T (sym (sym (standing_is k p q (ltb-true p M.size i.0) (ltb-true q N.size i.1)) ∙ b.1)) tt)

    -- and back
    pub from_largest : (p q : ℕ) → T (largest M N p q) → T (standing_pairs M N p q)
    unfolding standing_pairs final_ranks
    from_largest p q t =
        let k = last_round M N in
        let i = inside (M.size * N.size) p q t in
        let e : stands N (ranks_after M N k) p q ≡ true = standing_is k p q i.0 i.1 ∙ is_true _ (largest_stands M N m n k p q t) in
        subst T (sym (and_from _ _ (and_from _ _ (lt-ltb p M.size i.0) (lt-ltb q N.size i.1)) e)) tt

    -- it meets both clauses
    pub standing_meets : MachineMeets M N (standing_pairs M N)
    standing_meets =
        let l = largest_meets_tested M N m n in
        record {
          moves = λ p q t a v p' y. let e = l.moves p q (to_largest p q t) a v p' y in (e.0, e.1, from_largest p' e.0 e.2);
          refusals = λ p q t. l.refusals p q (to_largest p q t);
        }

    -- and holds all that such a relation holds
    pub standing_holds : (R : ℕ → ℕ → Bool) → MachineMeets M N R → (p q : ℕ) → p < M.size → q < N.size → T (R p q) → T (standing_pairs M N p q)
    standing_holds R meets p q a b r = from_largest p q (holds_each M N m n R meets p q a b r)
