-- The first of the numbers in order at which something is found.
use Rattle.std.proofs.Common.{◌≡◌, ℕ, zero, suc, ◌+◌, ◌<◌, ◌≤◌, Bool, true, false, ◌⊎◌, is_some, Some, None, Option, MatchOption, IsSomeAnd, sym, refl, ap, ◌∙◌, subst, inl, inr, ⊎_elim, arith}
use Rattle.std.proofs.lemmas.Bool.{cases_eq, true≢false, false≢true}
use Rattle.std.specs.Bool.{then_some}
use Rattle.clauses.specs.Candidates.{or_else, first_some}

-- nothing, or something
pub cases_option : {A : Type 0} (o : Option A) → (o ≡ None) ⊎ ((x : A) × (o ≡ Some x))
cases_option None = inl refl
cases_option (Some x) = inr (x, refl)

-- and not both
pub not_both : {A : Type 0} (o : Option A) (x : A) → o ≡ Some x → o ≡ None → ⊥
not_both o x e z = cc

-- what `map` makes of what is there
pub mapped : {A B : Type 0} {P : A → B → Type 0} (w : Option A → Option B) (o : Option A) (r : Option B) → MatchOption o (r ≡ None) (λ x. IsSomeAnd r (P x)) →
    None ≡ w None → ((x : A) (y : B) → P x y → Some y ≡ w (Some x)) → r ≡ w o
mapped w None r e none some = e ∙ none
mapped w (Some x) None e none some = absurd e
mapped w (Some x) (Some y) e none some = some x y e

-- what `then_some` answers, by the two results of a test
pub kept : {A : Type 0} {No : Type 0} (Yes : A → Type 0) (b : Bool) (x : A) (o : Option A) → o ≡ then_some b x → (b ≡ false → No) → (b ≡ true → Yes x) → MatchOption o No Yes
kept {No = No} Yes true x o e fails holds = subst (λ o. MatchOption o No Yes) (sym e) (holds refl)
kept {No = No} Yes false x o e fails holds = subst (λ o. MatchOption o No Yes) (sym e) (fails refl)

-- from what the code tests
pub is_none : {A : Type 0} (o : Option A) → is_some o ≡ false → o ≡ None
is_none None e = refl
is_none (Some x) e = absurd (true≢false e)

-- and the other way
pub some_is : {A : Type 0} (o : Option A) → is_some o ≡ true → (x : A) × (o ≡ Some x)
some_is None e = absurd (false≢true e)
some_is (Some x) e = (x, refl)

module _ {A : Type 0} (f : ℕ → Option A) where
  from_is : (n j k : ℕ) (v : A) → j ≤ k → k < n + j → ((i : ℕ) → i < k → f i ≡ None) → f k ≡ Some v → first_some f n j ≡ Some v
  unfolding first_some
  from_is zero j k v h l none some = absurd (omega arith)
  from_is (suc n) j k v h l none some =
      ⊎_elim
      (λ (e : j ≡ k). ap (λ o. or_else o (first_some f n (suc j))) (subst (λ (x : ℕ). f x ≡ Some v) (sym e) some))
      (λ (e : j ≡ k → ⊥). ap (λ o. or_else o (first_some f n (suc j))) (none j (omega arith)) ∙ from_is n (suc j) k v (omega arith) (omega arith) none some)
      (cases_eq j k)

  -- nothing is found from j on
  from_none : (n j : ℕ) → ((i : ℕ) → i < n + j → f i ≡ None) → first_some f n j ≡ None
  unfolding first_some
  from_none zero j none = refl
  from_none (suc n) j none = ap (λ o. or_else o (first_some f n (suc j))) (none j (omega arith)) ∙ from_none n (suc j) (λ i h. none i (omega arith))

  -- nothing is found below k
  pub first_is : (n k : ℕ) (v : A) → k < n → ((i : ℕ) → i < k → f i ≡ None) → f k ≡ Some v → first_some f n 0 ≡ Some v
  first_is n k v h none some = from_is n 0 k v (omega arith) (omega arith) none some

  -- nothing is found at all
  pub first_none : (n : ℕ) → ((i : ℕ) → i < n → f i ≡ None) → first_some f n 0 ≡ None
  first_none n none = from_none n 0 (λ i h. none i (omega arith))

  -- what is found, is found somewhere
  found_from : (n j : ℕ) (v : A) → first_some f n j ≡ Some v → (k : ℕ) × (k < n + j) × (f k ≡ Some v)
  unfolding first_some
  found_from zero j v e = cc
  found_from (suc n) j v e = ⊎_elim
      (λ (z : f j ≡ None). let r = found_from n (suc j) v (ap (λ o. or_else o (first_some f n (suc j))) (sym z) ∙ e) in (r.0, (let l = r.1 in omega arith), r.2))
      (λ (z : (x : A) × (f j ≡ Some x)). (j, omega arith, z.1 ∙ ap (λ o. or_else o (first_some f n (suc j))) (sym z.1) ∙ e))
      (cases_option (f j))

  -- the same from 0 on
  pub found_at : (n : ℕ) (v : A) → first_some f n 0 ≡ Some v → (k : ℕ) × (k < n) × (f k ≡ Some v)
  found_at n v e = let r = found_from n 0 v e in (r.0, omega arith, r.2)

  -- where nothing is found, there is nothing
  none_from : (n j : ℕ) → first_some f n j ≡ None → (k : ℕ) → j ≤ k → k < n + j → f k ≡ None
  unfolding first_some
  none_from zero j e k h l = absurd (omega arith)
  none_from (suc n) j e k h l = ⊎_elim
      (λ (z : f j ≡ None). ⊎_elim
      (λ (i : j ≡ k). subst (λ (x : ℕ). f x ≡ None) i z)
      (λ (i : j ≡ k → ⊥). none_from n (suc j) (ap (λ o. or_else o (first_some f n (suc j))) (sym z) ∙ e) k (omega arith) (omega arith))
      (cases_eq j k))
      (λ (z : (x : A) × (f j ≡ Some x)). absurd (not_both (Some z.0) z.0 refl (ap (λ o. or_else o (first_some f n (suc j))) (sym z.1) ∙ e)))
      (cases_option (f j))

  -- the same from 0 on
  pub none_found : (n : ℕ) → first_some f n 0 ≡ None → (k : ℕ) → k < n → f k ≡ None
  none_found n e k h = none_from n 0 e k (omega arith) (omega arith)

module _ {A : Type 0} (f g : ℕ → Option A) where
  from_same : (n j : ℕ) → ((i : ℕ) → i < n + j → f i ≡ g i) → first_some f n j ≡ first_some g n j
  unfolding first_some
  from_same zero j h = refl
  from_same (suc n) j h =
      ap (λ o. or_else o (first_some f n (suc j))) (h j (omega arith)) ∙ ap (λ o. or_else (g j) o) (from_same n (suc j) (λ i l. h i (omega arith)))

  -- two searches that agree
  pub first_same : (n : ℕ) → ((i : ℕ) → i < n → f i ≡ g i) → first_some f n 0 ≡ first_some g n 0
  first_same n h = from_same n 0 (λ i l. h i (omega arith))
