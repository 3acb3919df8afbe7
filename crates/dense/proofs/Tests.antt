-- Tests of the numbers below a bound, and sets that a loop fills.
use Rattle.std.proofs.Common.{◌≡◌, ℕ, ◌+◌, ◌<◌, ◌≤◌, Bool, true, false, not, ◌&&◌, ◌||◌, eqb, ltb, sym, refl, ap, ◌∙◌, subst, ⊎_elim, arith}
use Rattle.std.proofs.lemmas.Bool.{lt-ltb, le-ltb, eq-eqb, ne_eqb, cases_eq, cases_lt}
use Rattle.lts.specs.Machines.{some_below}
use Rattle.lts.specs.Some.{same, some_in, some_out}
use Rattle.labels.proofs.Bits.{or_false}

pub not_not : (b : Bool) → not (not b) ≡ b
not_not true = refl
not_not false = refl

-- tests that agree
pub some_alike : (n : ℕ) (f g : ℕ → Bool) → ((k : ℕ) → k < n → f k ≡ g k) → some_below n f ≡ some_below n g
some_alike n f g e =
    same (some_below n f) (some_below n g)
    (λ t. let o = some_out n f t in some_in n g o.0 o.1 (sym (e o.0 o.1) ∙ o.2))
    (λ t. let o = some_out n g t in some_in n f o.0 o.1 (e o.0 o.1 ∙ o.2))

-- a test that another implies
pub implied : (a b : Bool) → (b ≡ true → a ≡ true) → (a && b) ≡ b
implied true b f = refl
implied false true f = f refl
implied false false f = refl

-- one more number below the bound
pub below_next : (q x : ℕ) → (q ≡ x → ⊥) → ltb x (q + 1) ≡ ltb x q
below_next q x d = ⊎_elim
    (λ (h : x < q). lt-ltb x (q + 1) (omega arith) ∙ sym (lt-ltb x q h))
    (λ (h : q ≤ x). le-ltb x (q + 1) (omega arith) ∙ sym (le-ltb x q h))
    (cases_lt x q)

-- a number that passes is added to those below it that do
pub adds : (f : ℕ → Bool) (q x : ℕ) → f q ≡ true → ((ltb x q && f x) || eqb q x) ≡ (ltb x (q + 1) && f x)
adds f q x t = ⊎_elim
    (λ (e : q ≡ x).
    let here : f x ≡ true = subst (λ (y : ℕ). f y ≡ true) e t in
    ap (λ (b : Bool). (b && f x) || eqb q x) (le-ltb x q (omega arith)) ∙ eq-eqb q x e ∙ sym (ap (λ (b : Bool). b && f x) (lt-ltb x (q + 1) (omega arith)) ∙ here))
    (λ (e : q ≡ x → ⊥).
    ap (λ (b : Bool). (ltb x q && f x) || b) (ne_eqb q x e) ∙ or_false (ltb x q && f x) ∙ sym (ap (λ (b : Bool). b && f x) (below_next q x e)))
    (cases_eq q x)

-- and one that does not is not
pub adds_none : (f : ℕ → Bool) (q x : ℕ) → f q ≡ false → (ltb x q && f x) ≡ (ltb x (q + 1) && f x)
adds_none f q x t = ⊎_elim
    (λ (e : q ≡ x).
    let here : f x ≡ false = subst (λ (y : ℕ). f y ≡ false) e t in
    nothing (ltb x q) (f x) here ∙ sym (nothing (ltb x (q + 1)) (f x) here))
    (λ (e : q ≡ x → ⊥). sym (ap (λ (b : Bool). b && f x) (below_next q x e)))
    (cases_eq q x)
  where
    nothing : (a b : Bool) → b ≡ false → (a && b) ≡ false
    nothing true b e = e
    nothing false b e = refl
