-- What is found to fail truly fails.
use Rattle.std.proofs.Common.{◌≡◌, ℕ, zero, suc, ◌<◌, Bool, true, false, not, ◌&&◌, T, ltb, Some, None, Option, sym, refl, ap, ◌∙◌, subst, ⊎_elim}
use Rattle.std.proofs.lemmas.Bool.{and_parts, and_from, cases_Bool, cond-true, cond-false, both_ways, not-true, lt-ltb}
use Rattle.lts.specs.Systems.{TauReaches, Stable, Initial, ReadyOn}
use Rattle.lts.specs.Machines.{Machine, Sound, system_of, some_below, implies, tau_reaches, weak_step, stable, initial}
use Rattle.lts.specs.Covering.{Witness}
use Rattle.lts.specs.Conformance.{covers}
use Rattle.lts.proofs.Proper.{Proper, proper, is_true}
use Rattle.lts.proofs.Tests.{Tells, tells_and, tells_implies, tells_ltb, tells_each}
use Rattle.lts.proofs.Readings.{tells_tau_reaches, tells_weak_step, tells_initial, tells_stable, reaches_in}
use Rattle.clauses.specs.Candidates.{
  or_else,
  when,
  first_some,
  weak_by,
  move_fails,
  first_move_on,
  first_move,
  rest_fails,
  rest_on,
  first_rest_at,
  rests_from,
  first_rest,
  as_move,
  as_rest,
  first_failing,
}
use Rattle.clauses.specs.declared.counterexample.Counterexample.{Counterexample}
use Rattle.clauses.specs.declared.counterexample.Counterexample.TheVariants.{Move, Rest}
use Rattle.clauses.proofs.Firsts.{cases_option, not_both, found_at}
use Rattle.clauses.proofs.Somes.{none_at}
use Rattle.ranks.specs.Rounds.{stands, ranks_after}
use Rattle.judge.specs.declared.verdict.Answer.TheVariants.{Yes, No}
use Rattle.judge.specs.Verdicts.{start_rank, no_by, answer_by, answer}
use Rattle.judge.specs.Promises.{Fails, CounterexampleFails}
use Rattle.judge.proofs.Held.{start_in}
use Rattle.judge.proofs.Struck.{struck_some}

-- a test that passes
holds : (b : Bool) → b ≡ true → T b
holds b e = subst T (sym e) tt

-- what comes of a test
when_some : {A : Type 0} (b : Bool) (x y : A) → when b x ≡ Some y → (b ≡ true) × (x ≡ y)
when_some true x y e = (refl, (cc))
when_some false x y e = absurd (not_both None y e refl)

module _ (M N : Machine) (m : Proper M) (n : Proper N) (S : ℕ → ℕ → Bool) (p q : ℕ) (a : p < M.size) (b : q < N.size) where
  move_true : (l p' : ℕ) → l < 64 → p' < M.size → move_fails M N (tau_reaches M) (tau_reaches N) S p q l p' ≡ true → Fails M N S p q (Move l p')
  unfolding move_fails weak_by weak_step
  move_true l p' h k e =
      let t = and_parts (weak_step M p l p') (not (some_below N.size (λ q'. weak_step N q l q' && S p' q'))) e in (
        h,
        (tells_weak_step M m p l p').to (holds _ t.0),
        λ q' y z.
            let i : q' < N.size = n.to_in y.0 l q' y.2 in
            both_ways (weak_step N q l q' && S p' q') (none_at N.size (λ q'. weak_step N q l q' && S p' q') (not-true _ t.1) q' i)
            (and_from _ _ (is_true _ ((tells_weak_step N n q l q').of y)) (is_true _ z)),
      )

  -- what covering means
  tells_covers : (p' y q' : ℕ) → q' < N.size → Tells (covers M N p' y q')
      (Stable (system_of N) q' × (((l : ℕ) → l < 64 → Initial (system_of N) q' l → Initial (system_of M) p' l) × ReadyOn (system_of N) q' y))
  unfolding covers
  tells_covers p' y q' i =
      tells_and (tells_stable N n q' i)
      (tells_and
      (tells_each 64 _ (λ l. Initial (system_of N) q' l → Initial (system_of M) p' l)
      (λ l _. tells_implies (tells_initial N n q' l) (tells_initial M m p' l)))
      (tells_implies (tells_ltb y 64) (tells_initial N n q' y)))

  -- no state covers the rest
  uncovered : (p' y : ℕ) → some_below N.size (λ q'. tau_reaches N q q' && covers M N p' y q') ≡ false → Witness (system_of M) (system_of N) p' y q → ⊥
  uncovered p' y e w =
      let i = reaches_in N n w.reaches b in
      both_ways (tau_reaches N q w.place && covers M N p' y w.place) (none_at N.size (λ q'. tau_reaches N q q' && covers M N p' y q') e w.place i)
      (and_from _ _ (is_true _ ((tells_tau_reaches N n q w.place).of w.reaches)) (is_true _ ((tells_covers p' y w.place i).of (w.stable, (w.inside, w.ready)))))

  module _ (p' : ℕ) (k : p' < M.size) (r : (tau_reaches M p p' && stable M p') ≡ true) where
    there : TauReaches (system_of M) p p'
    there = (tells_tau_reaches M m p p').to (holds _ (and_parts (tau_reaches M p p') (stable M p') r).0)

    -- and is stable
    still : Stable (system_of M) p'
    still = (tells_stable M m p' k).to (holds _ (and_parts (tau_reaches M p p') (stable M p') r).1)

    -- a rest without a label
    bare_true : rest_fails M N (tau_reaches N) q p' 64 ≡ true → Fails M N S p q (Rest None p')
    unfolding rest_fails
    bare_true e = (there, still, uncovered p' 64 (not-true _ e))

    -- a rest with one
    label_true : (l : ℕ) → l < 64 → rest_fails M N (tau_reaches N) q p' l ≡ true → Fails M N S p q (Rest (Some l) p')
    unfolding rest_fails
    label_true l h e =
        let t = and_parts (implies (ltb l 64) (initial M p' l)) (not (some_below N.size (λ q'. tau_reaches N q q' && covers M N p' l q'))) e in (
          h,
          there,
          still,
          (tells_initial M m p' l).to (holds _ (sym (ap (λ (x : Bool). implies x (initial M p' l)) (lt-ltb l 64 h)) ∙ t.0)),
          uncovered p' l (not-true _ t.1),
        )

    -- the first of a state
    at_true : (x : Option ℕ × ℕ) → first_rest_at M N (tau_reaches N) q p' ≡ Some x → Fails M N S p q (Rest x.0 x.1)
    unfolding first_rest_at rest_on
    at_true x e = ⊎_elim
        (λ (t : rest_fails M N (tau_reaches N) q p' 64 ≡ true).
        let z = (when_some {A = Option ℕ × ℕ} true (None, p') x (sym (ap (λ (c : Bool). or_else (when {A = Option ℕ × ℕ} c (None, p')) (first_some (rest_on M N (tau_reaches N) q p') 64 0)) t) ∙ e)).1 in
        subst (λ (c : Option ℕ × ℕ). Fails M N S p q (Rest c.0 c.1)) z (bare_true t))
        (λ (t : rest_fails M N (tau_reaches N) q p' 64 ≡ false).
        let o = found_at (rest_on M N (tau_reaches N) q p') 64 x
        (sym (ap (λ (c : Bool). or_else (when {A = Option ℕ × ℕ} c (None, p')) (first_some (rest_on M N (tau_reaches N) q p') 64 0)) t) ∙ e) in
        let w = when_some {A = Option ℕ × ℕ} (rest_fails M N (tau_reaches N) q p' o.0) (Some o.0, p') x o.2 in
        subst (λ (c : Option ℕ × ℕ). Fails M N S p q (Rest c.0 c.1)) w.1 (label_true o.0 o.1 w.0))
        (cases_Bool (rest_fails M N (tau_reaches N) q p' 64))

  -- the first of the first clause
  moves_true : (x : ℕ × ℕ) → first_move M N (tau_reaches M) (tau_reaches N) S p q ≡ Some x → Fails M N S p q (Move x.0 x.1)
  unfolding first_move first_move_on
  moves_true x e =
      let o = found_at (first_move_on M N (tau_reaches M) (tau_reaches N) S p q) 64 x e in
      let l = o.0 in
      let i = found_at (λ p'. when (move_fails M N (tau_reaches M) (tau_reaches N) S p q l p') (l, p')) M.size x o.2 in
      let w = when_some {A = ℕ × ℕ} (move_fails M N (tau_reaches M) (tau_reaches N) S p q l i.0) (l, i.0) x i.2 in
      subst (λ (c : ℕ × ℕ). Fails M N S p q (Move c.0 c.1)) w.1 (move_true l i.0 o.1 i.1 w.0)

  -- the first of the second
  rests_true : (x : Option ℕ × ℕ) → first_rest M N (tau_reaches M) (tau_reaches N) p q ≡ Some x → Fails M N S p q (Rest x.0 x.1)
  unfolding first_rest rests_from
  rests_true x e =
      let o = found_at (rests_from M N (tau_reaches M) (tau_reaches N) p q) M.size x e in
      let t = tau_reaches M p o.0 && stable M o.0 in
      ⊎_elim
      (λ (r : t ≡ true). at_true o.0 o.1 r x (sym (cond-true t (first_rest_at M N (tau_reaches N) q o.0) None r) ∙ o.2))
      (λ (r : t ≡ false). absurd (not_both None x (sym (cond-false t (first_rest_at M N (tau_reaches N) q o.0) None r) ∙ o.2) refl))
      (cases_Bool t)

  -- one counterexample
  some_same : (c d : Counterexample) → Some c ≡ Some d → c ≡ d
  some_same c d e = cc

  -- the first of both
  pub failing_true : (c : Counterexample) → first_failing M N S p q ≡ Some c → Fails M N S p q c
  unfolding first_failing
  failing_true c e =
      let fm = first_move M N (tau_reaches M) (tau_reaches N) S p q in
      let fr = first_rest M N (tau_reaches M) (tau_reaches N) p q in
      ⊎_elim
      (λ (z : fm ≡ None).
      let r : as_rest fr ≡ Some c = sym (ap (λ o. or_else (as_move o) (as_rest fr)) z) ∙ e in
      ⊎_elim
      (λ (y : fr ≡ None). absurd (not_both None c (sym (ap as_rest y) ∙ r) refl))
      (λ (y : (x : Option ℕ × ℕ) × (fr ≡ Some x)). subst (Fails M N S p q) (some_same (Rest y.0.0 y.0.1) c (sym (ap as_rest y.1) ∙ r)) (rests_true y.0 y.1))
      (cases_option fr))
      (λ (z : (x : ℕ × ℕ) × (fm ≡ Some x)).
      subst (Fails M N S p q) (some_same (Move z.0.0 z.0.1) c (sym (ap (λ o. or_else (as_move o) (as_rest fr)) z.1) ∙ e)) (moves_true z.0 z.1))
      (cases_option fm)

-- yes is not no
yes_no : (k : ℕ) (c : Counterexample) → Yes ≡ No k c → ⊥
yes_no k c e = cc

-- one no
no_same : (j k : ℕ) (c d : Counterexample) → No j c ≡ No k d → (k ≡ j) × (c ≡ d)
no_same j k c d e = ((cc), (cc))

-- the one that a verdict names
pub counterexample_fails : (M N : Machine) → Sound M → Sound N → CounterexampleFails M N
unfolding answer
counterexample_fails M N s u f g round c e = go (start_rank M N) refl e
  where
    go : (r : ℕ) → start_rank M N ≡ r → answer_by M N r ≡ No round c → (k : ℕ) × (round ≡ suc k) × Fails M N (stands N (ranks_after M N k)) M.start N.start c
    go zero z y = absurd (yes_no round c y)
    go (suc k) z y = ⊎_elim
        (λ (x : first_failing M N (stands N (ranks_after M N k)) M.start N.start ≡ None). absurd (struck_some M N k M.start N.start (start_in M s f) (start_in N u g) z x))
        (λ (x : (d : Counterexample) × (first_failing M N (stands N (ranks_after M N k)) M.start N.start ≡ Some d)).
        let w = no_same (suc k) round x.0 c (sym (ap (no_by (suc k)) x.1) ∙ y) in
        (k, w.0, failing_true M N (proper M s f) (proper N u g) (stands N (ranks_after M N k)) M.start N.start (start_in M s f) (start_in N u g) c (x.1 ∙ ap (λ (v : Counterexample). Some v) w.1)))
        (cases_option (first_failing M N (stands N (ranks_after M N k)) M.start N.start))
