-- What a final rank says of the round that struck the pair.
use Rattle.std.proofs.Common.{◌≡◌, ℕ, zero, suc, ◌+◌, ◌-◌, ◌*◌, ◌/◌, ◌%◌, ◌<◌, Bool, true, false, not, ◌||◌, eqb, leb, get_or, None, sym, refl, ap, ◌∙◌, subst, subst₂, ⊎_elim, suc-add, zero-add, arith}
use Rattle.std.proofs.lemmas.Nat.{div-mul-add, mod-mul-add}
use Rattle.std.proofs.lemmas.Bool.{cases_Bool, cond-true, cond-false, and_parts, eqb-true, lt-leb, le-leb, or_right, both_ways, not-true}
use Rattle.lts.specs.Machines.{Machine}
use Rattle.lts.specs.Conformance.{passes}
use Rattle.clauses.specs.Ranks.{stood_by}
use Rattle.clauses.specs.Candidates.{first_failing}
use Rattle.clauses.specs.Workspaces.{pairs}
use Rattle.clauses.proofs.Passing.{all_pass}
use Rattle.ranks.specs.Rounds.{stands, strikes_at, ranks_after, last_round, final_ranks}
use Rattle.ranks.proofs.After.{ranks_none, ranks_more, ranks_small, pair_in}

-- a test that adds nothing
or_false : (a b : Bool) → b ≡ false → (a || b) ≡ a
or_false true b e = refl
or_false false b e = e

module _ (M N : Machine) where
  -- later rounds do not change what stood before round k + 1
  stood_later : (j k i : ℕ) → i < pairs M N → stood_by (suc k) (get_or (ranks_after M N (j + k)) i 0) ≡ eqb (get_or (ranks_after M N k) i 0) 0
  unfolding strikes_at
  stood_later zero k i h =
      let r = get_or (ranks_after M N k) i 0 in
      ap (λ (x : ℕ). stood_by (suc k) (get_or (ranks_after M N x) i 0)) (zero-add k) ∙ or_false (eqb r 0) (leb (suc k) r) (lt-leb (suc k) r (omega (arith, ranks_small M N k i h)))
  stood_later (suc j) k i h =
      let b = ranks_after M N (j + k) in
      let r = get_or b i 0 in
      ap (λ (x : ℕ). stood_by (suc k) (get_or (ranks_after M N x) i 0)) (suc-add j k)
      ∙ ap (stood_by (suc k)) (ranks_more M N (j + k) i h)
      ∙ ⊎_elim
      (λ (t : strikes_at M N b i ≡ true).
      ap (stood_by (suc k)) (cond-true (strikes_at M N b i) (suc (j + k)) r t)
      ∙ or_right (eqb (suc (j + k)) 0) (leb (suc k) (suc (j + k))) (le-leb (suc k) (suc (j + k)) (omega arith))
      ∙ sym (ap (stood_by (suc k)) (eqb-true r 0 (and_parts (eqb r 0) _ t).0)) ∙ stood_later j k i h)
      (λ (t : strikes_at M N b i ≡ false). ap (stood_by (suc k)) (cond-false (strikes_at M N b i) (suc (j + k)) r t) ∙ stood_later j k i h)
      (cases_Bool (strikes_at M N b i))

  -- rank k + 1 is that of a pair that round k + 1 struck
  struck_at : (j k i : ℕ) → i < pairs M N → get_or (ranks_after M N j) i 0 ≡ suc k → (k < j) × (strikes_at M N (ranks_after M N k) i ≡ true)
  struck_at zero k i h e = absurd (omega (arith, ranks_none M N i h))
  struck_at (suc j) k i h e =
      let b = ranks_after M N j in
      ⊎_elim
      (λ (t : strikes_at M N b i ≡ true).
      let z : j ≡ k = omega (arith, ranks_more M N j i h, cond-true (strikes_at M N b i) (suc j) (get_or b i 0) t) in
      (omega arith, subst (λ (x : ℕ). strikes_at M N (ranks_after M N x) i ≡ true) z t))
      (λ (t : strikes_at M N b i ≡ false).
      let r = struck_at j k i h (sym (ranks_more M N j i h ∙ cond-false (strikes_at M N b i) (suc j) (get_or b i 0) t) ∙ e) in
      ((let l = r.0 in omega arith), r.1))
      (cases_Bool (strikes_at M N b i))

  -- by the final ranks: what stood before the round that struck a pair
  pub stood_final : (k i j : ℕ) → i < pairs M N → j < pairs M N → get_or (final_ranks M N) i 0 ≡ suc k → stood_by (suc k) (get_or (final_ranks M N) j 0) ≡ eqb (get_or (ranks_after M N k) j 0) 0
  unfolding final_ranks
  stood_final k i j h l e =
      let r = (struck_at (last_round M N) k i h e).0 in
      let z : last_round M N ≡ (last_round M N - k) + k = omega arith in
      ap (λ (x : ℕ). stood_by (suc k) (get_or (ranks_after M N x) j 0)) z ∙ stood_later (last_round M N - k) k j l

  -- and the pair did not pass then
  pub struck_fails : (k p q : ℕ) → p < M.size → q < N.size → get_or (final_ranks M N) (p * N.size + q) 0 ≡ suc k → passes M N (stands N (ranks_after M N k)) p q ≡ false
  unfolding final_ranks strikes_at
  struck_fails k p q a b e =
      let i = p * N.size + q in
      let t = (struck_at (last_round M N) k i (pair_in M N p q a b) e).1 in
      subst₂ (λ (x y : ℕ). passes M N (stands N (ranks_after M N k)) x y ≡ false) (div-mul-add p N.size q b) (mod-mul-add p N.size q b)
      (not-true _ (and_parts (eqb (get_or (ranks_after M N k) i 0) 0) (not (passes M N (stands N (ranks_after M N k)) (i / N.size) (i % N.size))) t).1)

  -- so a candidate of it failed
  pub struck_some : (k p q : ℕ) → p < M.size → q < N.size → get_or (final_ranks M N) (p * N.size + q) 0 ≡ suc k → first_failing M N (stands N (ranks_after M N k)) p q ≡ None → ⊥
  struck_some k p q a b e z = both_ways (passes M N (stands N (ranks_after M N k)) p q) (struck_fails k p q a b e) (all_pass M N (stands N (ranks_after M N k)) p q z)
