-- Tests that pass together, and `some_below`.
use Rattle.std.specs.Prelude.{◌≡◌, ℕ, zero, suc, ◌<◌, Bool, true, false, refl}
use Rattle.std.proofs.Common.{sym, subst, ⊎_elim, arith}
use Rattle.std.proofs.lemmas.Bool.{or_cases, or_left, or_right, cases_eq, true≢false}
use Rattle.lts.specs.Machines.{some_below}

-- two tests are equal where each passes if the other does
pub same : (a b : Bool) → (a ≡ true → b ≡ true) → (b ≡ true → a ≡ true) → a ≡ b
same true b f g = sym (f refl)
same false true f g = g refl
same false false f g = refl

pub some_in : (n : ℕ) (f : ℕ → Bool) (k : ℕ) → k < n → f k ≡ true → some_below n f ≡ true
unfolding some_below
some_in zero f k h e = absurd (omega arith)
some_in (suc n) f k h e =
    ⊎_elim
    (λ (q : k ≡ n). or_left (f n) (some_below n f) (subst (λ (j : ℕ). f j ≡ true) q e))
    (λ (q : k ≡ n → ⊥). or_right (f n) (some_below n f) (some_in n f k (omega arith) e))
    (cases_eq k n)

pub some_out : (n : ℕ) (f : ℕ → Bool) → some_below n f ≡ true → (k : ℕ) × (k < n) × (f k ≡ true)
unfolding some_below
some_out zero f e = absurd (true≢false (sym e))
some_out (suc n) f e =
    ⊎_elim
    (λ (q : f n ≡ true). (n, omega arith, q))
    (λ (q : some_below n f ≡ true). let r = some_out n f q in (r.0, omega arith, r.2))
    (or_cases (f n) (some_below n f) e)
