-- A pair passes both clauses exactly when no candidate of it fails.
use Rattle.std.proofs.Common.{◌≡◌, ℕ, ◌<◌, ◌≤◌, Bool, true, false, not, ◌&&◌, ltb, is_some, Some, None, Option, sym, refl, ap, ◌∙◌, subst, ⊎_elim, arith}
use Rattle.std.proofs.lemmas.Bool.{both_ways, cases_Bool, cases_lt, and_parts, and_from, and_left, and_right, cond-true, cond-false, true≢false, not_from_true}
use Rattle.lts.specs.Machines.{Machine, some_below, implies, tau_reaches, weak_step, stable, initial}
use Rattle.lts.specs.Conformance.{covers, passes, passes_moves, passes_refusals}
use Rattle.lts.specs.Some.{some_out}
use Rattle.clauses.specs.declared.counterexample.Counterexample.{Counterexample}
use Rattle.clauses.specs.Candidates.{
  or_else,
  when,
  first_some,
  weak_by,
  move_fails,
  first_move_on,
  first_move,
  rest_fails,
  rest_on,
  first_rest_at,
  rests_from,
  first_rest,
  as_move,
  as_rest,
  first_failing,
}
use Rattle.clauses.specs.Uncovered.{uncovered_by}
use Rattle.clauses.proofs.Somes.{each_in, each_out, none_at}
use Rattle.clauses.proofs.Firsts.{first_none, none_found, cases_option, not_both, is_none, some_is}
use Rattle.clauses.proofs.Covering.{on_covered, bare_covered}

-- an implication that holds is not refuted
implied : (a b : Bool) → implies a b ≡ true → (a && not b) ≡ false
implied true true e = refl
implied true false e = sym e
implied false b e = refl

-- and the other way
implying : (a b : Bool) → (a && not b) ≡ false → implies a b ≡ true
implying true true e = refl
implying true false e = absurd (true≢false e)
implying false b e = refl

-- nothing comes of a test that fails
pub when_false : {A : Type 0} (b : Bool) (x : A) → when b x ≡ None → b ≡ false
when_false true x e = absurd (not_both (Some x) x refl e)
when_false false x e = refl

-- nothing comes of two that give nothing
or_none : {A : Type 0} (o r : Option A) → or_else o r ≡ None → (o ≡ None) × (r ≡ None)
or_none None r e = (refl, e)
or_none (Some x) r e = absurd (not_both (Some x) x refl e)

-- a move is not lost
no_move : (o : Option (ℕ × ℕ)) → as_move o ≡ None → o ≡ None
no_move None e = refl
no_move (Some x) e = absurd (not_both (as_move (Some x)) _ refl e)

-- nor a rest
no_rest : (o : Option (Option ℕ × ℕ)) → as_rest o ≡ None → o ≡ None
no_rest None e = refl
no_rest (Some x) e = absurd (not_both (as_rest (Some x)) _ refl e)

module _ (M N : Machine) (S : ℕ → ℕ → Bool) (p q : ℕ) where
  abbrev R : ℕ → ℕ → Bool
  R = tau_reaches M

  abbrev U : ℕ → ℕ → Bool
  U = tau_reaches N

  -- the first clause
  moves_to : passes_moves M N S p q ≡ true → first_move M N R U S p q ≡ None
  unfolding passes_moves first_move first_move_on move_fails weak_by weak_step
  moves_to e = first_none (first_move_on M N R U S p q) 64 (λ l h.
      first_none (λ p'. when (move_fails M N R U S p q l p') (l, p')) M.size (λ p' k.
      cond-false (move_fails M N R U S p q l p') (Some (l, p')) None
      (implied (weak_step M p l p') (some_below N.size (λ q'. weak_step N q l q' && S p' q')) (each_out M.size _ (each_out 64 _ e l h) p' k))))

  -- and back
  moves_of : first_move M N R U S p q ≡ None → passes_moves M N S p q ≡ true
  unfolding passes_moves first_move first_move_on move_fails weak_by weak_step
  moves_of e = each_in 64 _ (λ l h. each_in M.size _ (λ p' k.
      implying (weak_step M p l p') (some_below N.size (λ q'. weak_step N q l q' && S p' q'))
      (when_false (move_fails M N R U S p q l p') (l, p')
      (none_found (λ p'. when (move_fails M N R U S p q l p') (l, p')) M.size (none_found (first_move_on M N R U S p q) 64 e l h) p' k))))

  -- the second
  abbrev Answered : ℕ → ℕ → Bool
  Answered p' y = some_below N.size (λ q'. tau_reaches N q q' && covers M N p' y q')

  abbrev Ready : ℕ → ℕ → Bool
  Ready p' y = implies (ltb y 64) (initial M p' y)

  -- each rest is covered
  pub rests_to : passes_refusals M N p q ≡ true → first_rest M N R U p q ≡ None
  unfolding passes_refusals first_rest rests_from rest_fails
  rests_to e = first_none (rests_from M N R U p q) M.size (λ p' k.
      let covered : (tau_reaches M p p' && stable M p') ≡ true → (y : ℕ) → y < 65 → rest_fails M N U q p' y ≡ false = (λ t y h.
      let b = and_parts (tau_reaches M p p') (stable M p') t in
      ⊎_elim
      (λ (i : Ready p' y ≡ true). and_right (Ready p' y) (not (Answered p' y)) (not_from_true (Answered p' y)
      (answered (tau_reaches M p p' && (stable M p' && Ready p' y)) (Answered p' y) (each_out 65 _ (each_out M.size _ e p' k) y h)
      (and_from _ _ b.0 (and_from _ _ b.1 i)))))
      (λ (i : Ready p' y ≡ false). and_left (Ready p' y) (not (Answered p' y)) i)
      (cases_Bool (Ready p' y))) in
      ⊎_elim
      (λ (t : (tau_reaches M p p' && stable M p') ≡ true).
      cond-true (tau_reaches M p p' && stable M p') (first_rest_at M N U q p') None t
      ∙ bare_covered M N U q p' (covered t 64 (omega arith))
      ∙ first_none (rest_on M N U q p') 64 (λ l h. on_covered M N U q p' l (covered t l (omega arith))))
      (λ (t : (tau_reaches M p p' && stable M p') ≡ false). cond-false (tau_reaches M p p' && stable M p') (first_rest_at M N U q p') None t)
      (cases_Bool (tau_reaches M p p' && stable M p')))
    where
      answered : (a b : Bool) → implies a b ≡ true → a ≡ true → b ≡ true
      answered true b e f = e
      answered false b e f = absurd (both_ways false refl f)

  -- and back
  pub rests_of : first_rest M N R U p q ≡ None → passes_refusals M N p q ≡ true
  unfolding passes_refusals first_rest rests_from first_rest_at rest_on rest_fails
  rests_of e = each_in M.size _ (λ p' k. each_in 65 _ (λ y h.
      implying (tau_reaches M p p' && (stable M p' && Ready p' y)) (Answered p' y)
      (⊎_elim
      (λ (t : (tau_reaches M p p' && (stable M p' && Ready p' y)) ≡ true).
      let a = and_parts (tau_reaches M p p') (stable M p' && Ready p' y) t in
      let b = and_parts (stable M p') (Ready p' y) a.1 in
      let none : first_rest_at M N U q p' ≡ None =
      (sym (cond-true (tau_reaches M p p' && stable M p') (first_rest_at M N U q p') None (and_from _ _ a.0 b.0)) ∙ none_found (rests_from M N R U p q) M.size e p' k) in
      let parts = or_none (when {A = Option ℕ × ℕ} (rest_fails M N U q p' 64) (None, p')) (first_some (rest_on M N U q p') 64 0) none in
      let fails : rest_fails M N U q p' y ≡ false = ⊎_elim
      (λ (v : y < 64). when_false {A = Option ℕ × ℕ} (rest_fails M N U q p' y) (Some y, p') (none_found (rest_on M N U q p') 64 parts.1 y v))
      (λ (v : 64 ≤ y). let i : 64 ≡ y = omega arith in
      subst (λ (z : ℕ). rest_fails M N U q p' z ≡ false) i (when_false {A = Option ℕ × ℕ} (rest_fails M N U q p' 64) (None, p') parts.0))
      (cases_lt y 64) in
      ap (λ (x : Bool). x && not (Answered p' y)) t ∙ ap (λ (x : Bool). x && not (Answered p' y)) (sym b.1) ∙ fails)
      (λ (t : (tau_reaches M p p' && (stable M p' && Ready p' y)) ≡ false). and_left _ _ t)
      (cases_Bool (tau_reaches M p p' && (stable M p' && Ready p' y))))))

  -- both clauses
  pub none_fails : passes M N S p q ≡ true → first_failing M N S p q ≡ None
  unfolding passes first_failing
  none_fails e =
      let b = and_parts (passes_moves M N S p q) (passes_refusals M N p q) e in
      ap (λ o. or_else (as_move o) (as_rest (first_rest M N R U p q))) (moves_to b.0) ∙ ap as_rest (rests_to b.1)

  -- and back
  pub all_pass : first_failing M N S p q ≡ None → passes M N S p q ≡ true
  unfolding passes first_failing
  all_pass e =
      let b = or_none (as_move (first_move M N R U S p q)) (as_rest (first_rest M N R U p q)) e in
      and_from _ _ (moves_of (no_move (first_move M N R U S p q) b.0)) (rests_of (no_rest (first_rest M N R U p q) b.1))

  -- the code's test of a pair
  pub fails_exactly : is_some (first_failing M N S p q) ≡ not (passes M N S p q)
  fails_exactly = ⊎_elim
      (λ (t : passes M N S p q ≡ true). ap is_some (none_fails t) ∙ sym (ap not t))
      (λ (t : passes M N S p q ≡ false). ⊎_elim
      (λ (z : first_failing M N S p q ≡ None). absurd (both_ways (passes M N S p q) t (all_pass z)))
      (λ (z : (x : Counterexample) × (first_failing M N S p q ≡ Some x)). ap is_some z.1 ∙ sym (ap not t))
      (cases_option (first_failing M N S p q)))
      (cases_Bool (passes M N S p q))

-- the second clause, by the states that are not covered
pub refusals_are : (M N : Machine) (p q : ℕ) → passes_refusals M N p q ≡ not (some_below M.size (λ p'. tau_reaches M p p' && uncovered_by M N (tau_reaches N) q p'))
unfolding first_rest rests_from uncovered_by
refusals_are M N p q =
    let f : ℕ → Bool = λ p'. tau_reaches M p p' && (stable M p' && is_some (first_rest_at M N (tau_reaches N) q p')) in
    ⊎_elim
    (λ (t : some_below M.size f ≡ true).
    let o = some_out M.size f t in
    let p' = o.0 in
    let a = and_parts (tau_reaches M p p') _ o.2 in
    let b = and_parts (stable M p') (is_some (first_rest_at M N (tau_reaches N) q p')) a.1 in
    let c = some_is (first_rest_at M N (tau_reaches N) q p') b.1 in
    ⊎_elim
    (λ (u : passes_refusals M N p q ≡ true).
    absurd (not_both (first_rest_at M N (tau_reaches N) q p') c.0 c.1
    (sym (cond-true (tau_reaches M p p' && stable M p') (first_rest_at M N (tau_reaches N) q p') None (and_from _ _ a.0 b.0))
    ∙ none_found (rests_from M N (tau_reaches M) (tau_reaches N) p q) M.size (rests_to M N (λ _ _. true) p q u) p' o.1)))
    (λ (u : passes_refusals M N p q ≡ false). u ∙ sym (ap not t))
    (cases_Bool (passes_refusals M N p q)))
    (λ (t : some_below M.size f ≡ false).
    rests_of M N (λ _ _. true) p q
    (first_none (rests_from M N (tau_reaches M) (tau_reaches N) p q) M.size (λ p' h.
    ⊎_elim
    (λ (u : (tau_reaches M p p' && stable M p') ≡ true).
    let a = and_parts (tau_reaches M p p') (stable M p') u in
    cond-true (tau_reaches M p p' && stable M p') (first_rest_at M N (tau_reaches N) q p') None u
    ∙ is_none (first_rest_at M N (tau_reaches N) q p')
    (sym (ap (λ (b : Bool). b && (stable M p' && is_some (first_rest_at M N (tau_reaches N) q p'))) a.0 ∙ ap (λ (b : Bool). b && is_some (first_rest_at M N (tau_reaches N) q p')) a.1) ∙ none_at M.size f t p' h))
    (λ (u : (tau_reaches M p p' && stable M p') ≡ false). cond-false (tau_reaches M p p' && stable M p') (first_rest_at M N (tau_reaches N) q p') None u)
    (cases_Bool (tau_reaches M p p' && stable M p'))))
    ∙ sym (ap not t))
    (cases_Bool (some_below M.size f))
