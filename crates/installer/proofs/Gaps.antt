-- Where the first empty line stands.
use Rattle.std.proofs.Common.{◌≡◌, ℕ, zero, suc, ◌+◌, ◌-◌, ◌<◌, ◌≤◌, Bool, true, false, cond, ◌&&◌, eqb, ◌⊎◌, List, [], ◌∷◌, length, get_or, drop, sym, refl, ap, ◌∙◌, inl, inr, ⊎_elim, arith}
use Rattle.std.proofs.lemmas.List.{at_drop_more, at_drop_all}
use Rattle.std.proofs.lemmas.Bool.{cond-true, cond-false, and_from, and_parts, eqb-true, eq-eqb, true≢false}
use Rattle.installer.specs.Inputs.{gap_from, gap, FirstGap}

-- a line feed where a line begins
pub gap_here : (fresh : Bool) (xs : List ℕ) (i : ℕ) → i < length xs → (fresh && eqb (get_or xs i 0) 10) ≡ true → gap_from fresh (drop i xs) ≡ 0
unfolding gap_from
gap_here fresh xs i h e = at_drop_more (gap_from fresh) xs i 0 h ∙ cond-true (fresh && eqb (get_or xs i 0) 10) _ _ e

-- any other byte
pub gap_on : (fresh : Bool) (xs : List ℕ) (i : ℕ) → i < length xs → (fresh && eqb (get_or xs i 0) 10) ≡ false →
    gap_from fresh (drop i xs) ≡ suc (gap_from (eqb (get_or xs i 0) 10) (drop (i + 1) xs))
unfolding gap_from
gap_on fresh xs i h e = at_drop_more (gap_from fresh) xs i 0 h ∙ cond-false (fresh && eqb (get_or xs i 0) 10) _ _ e

-- no byte is left
pub gap_end : (fresh : Bool) (xs : List ℕ) (i : ℕ) → length xs ≤ i → gap_from fresh (drop i xs) ≡ 0
unfolding gap_from
gap_end fresh xs i h = at_drop_all (gap_from fresh) xs i h

-- a line begins at the front where it is fresh, and behind a line feed
abbrev FreshAt : Bool → List ℕ → ℕ → Type 0
FreshAt fresh xs zero = fresh ≡ true
FreshAt fresh xs (suc i) = get_or xs i 0 ≡ 10

fresh_up : (x : ℕ) (xs : List ℕ) (i : ℕ) → FreshAt (eqb x 10) xs i → get_or (x ∷ xs) i 0 ≡ 10
fresh_up x xs zero h = eqb-true x 10 h
fresh_up x xs (suc i) h = h

fresh_down : (x : ℕ) (xs : List ℕ) (i : ℕ) → get_or (x ∷ xs) i 0 ≡ 10 → FreshAt (eqb x 10) xs i
fresh_down x xs zero h = eq-eqb x 10 h
fresh_down x xs (suc i) h = h

-- the place of the first line feed where a line begins
pub record FirstFrom (fresh : Bool) (xs : List ℕ) (g : ℕ) : Type 0 where
  pub here : ((g < length xs) × (get_or xs g 0 ≡ 10) × FreshAt fresh xs g) ⊎ (g ≡ length xs)
  pub none_before : (i : ℕ) → i < g → get_or xs i 0 ≡ 10 → FreshAt fresh xs i → ⊥

first_cons : (fresh : Bool) (x : ℕ) (xs : List ℕ) (b : Bool) (g : ℕ) → (fresh && eqb x 10) ≡ b → FirstFrom (eqb x 10) xs g → FirstFrom fresh (x ∷ xs) (cond b 0 (suc g))
first_cons fresh x xs true g e r =
    let p = and_parts fresh (eqb x 10) e in
    record { here = inl (omega arith, eqb-true x 10 p.1, p.0); none_before = λ i l. absurd (omega arith) }
first_cons fresh x xs false g e r = record {
  here = ⊎_elim (λ p. inl (omega (arith, p.0), p.1, fresh_up x xs g p.2)) (λ q. inr (ap suc q)) r.here;
  none_before = before;
}
  where
    before : (i : ℕ) → i < suc g → get_or (x ∷ xs) i 0 ≡ 10 → FreshAt fresh (x ∷ xs) i → ⊥
    before zero l a f = true≢false (sym (and_from fresh (eqb x 10) f (eq-eqb x 10 a)) ∙ e)
    before (suc i) l a f = r.none_before i (omega arith) a (fresh_down x xs i f)

first_from : (fresh : Bool) (xs : List ℕ) → FirstFrom fresh xs (gap_from fresh xs)
unfolding gap_from
first_from fresh [] = record { here = inr refl; none_before = λ i l. absurd (omega arith) }
first_from fresh (x ∷ xs) = first_cons fresh x xs (fresh && eqb x 10) (gap_from (eqb x 10) xs) refl (first_from (eqb x 10) xs)

-- the same in the words of the law
begins : (xs : List ℕ) (i : ℕ) → FreshAt true xs i → (i ≡ 0) ⊎ (get_or xs (i - 1) 0 ≡ 10)
begins xs zero f = inl refl
begins xs (suc i) f = let e : suc i - 1 ≡ i = omega arith in inr (ap (λ (n : ℕ). get_or xs n 0) e ∙ f)

begun : (xs : List ℕ) (i : ℕ) → (i ≡ 0) ⊎ (get_or xs (i - 1) 0 ≡ 10) → FreshAt true xs i
begun xs zero h = refl
begun xs (suc i) h =
    let e : i ≡ suc i - 1 = omega arith in
    ⊎_elim (λ z. absurd (omega arith)) (λ f. ap (λ (n : ℕ). get_or xs n 0) e ∙ f) h

pub first_gap : (input : List ℕ) → FirstGap input
first_gap input =
    let r = first_from true input in
    record {
      here = ⊎_elim (λ p. inl (p.0, p.1, begins input (gap input) p.2)) (λ q. inr q) r.here;
      none_before = λ i l e. r.none_before i l e.1 (begun input i e.2);
    }
