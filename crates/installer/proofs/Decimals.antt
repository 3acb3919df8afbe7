-- Figures are decimals, of at most five digits, and are written from the front.
use Rattle.std.proofs.Common.{◌≡◌, ℕ, zero, suc, ◌+◌, ◌-◌, ◌/◌, ◌%◌, ◌<◌, ◌≤◌, Bool, true, false, cond, ltb, List, [], ◌∷◌, ◌++◌, length, take, sym, refl, ap, ◌∙◌, append-nil, arith, rules}
use Rattle.std.proofs.lemmas.Bool.{cond-true, cond-false, lt-ltb, le-ltb}
use Rattle.std.proofs.lemmas.Fmt.{AppendsLastDigit, decimal_from_appends, length-decimal-le}
use Rattle.std.proofs.lemmas.List.{length_push, take_all}
use Rattle.installer.specs.Figures.{digits, figure, FiguresAreDecimals}

spells : AppendsLastDigit digits
unfolding digits
spells = search rules

pub figures_are_decimals : FiguresAreDecimals
unfolding figure
figures_are_decimals n h = decimal_from_appends digits spells 5 n (omega arith) (length-decimal-le 5 n (omega arith) (omega arith) (omega arith))

-- none of its digits, its one digit, and the last one behind the others
pub digits_none : (was : List ℕ) (places n : ℕ) → length was ≤ 40 → places ≡ 0 → was ≡ take 40 (was ++ digits places n)
unfolding digits
digits_none was places n l e = sym (ap (λ (k : ℕ). take 40 (was ++ digits k n)) e ∙ ap (take 40) (append-nil was) ∙ take_all 40 was l)

pub digits_one : (places n : ℕ) → (places ≡ 0 → ⊥) → n < 10 → digits places n ≡ (48 + n % 10) ∷ []
unfolding digits
digits_one zero n z h = absurd (z refl)
digits_one (suc k) n z h =
    let e : 48 + n ≡ 48 + n % 10 = omega arith in
    cond-true (ltb n 10) ((48 + n) ∷ []) _ (lt-ltb n 10 h) ∙ ap (λ (x : ℕ). x ∷ []) e

pub digits_step : (places n : ℕ) → (places ≡ 0 → ⊥) → 10 ≤ n → digits places n ≡ digits (places - 1) (n / 10) ++ (48 + n % 10) ∷ []
unfolding digits
digits_step zero n z h = absurd (z refl)
digits_step (suc k) n z h =
    let e : k ≡ suc k - 1 = omega arith in
    cond-false (ltb n 10) _ _ (le-ltb n 10 h) ∙ ap (λ (j : ℕ). digits j (n / 10) ++ (48 + n % 10) ∷ []) e

-- a figure has at most five digits
one_longer : (b : Bool) (k x y : ℕ) (xs : List ℕ) → length xs ≤ k → length (cond b (x ∷ []) (xs ++ y ∷ [])) ≤ suc k
one_longer true k x y xs h = omega arith
one_longer false k x y xs h = omega (arith, length_push xs y)

digits_short : (k n : ℕ) → length (digits k n) ≤ k
unfolding digits
digits_short zero n = omega arith
digits_short (suc k) n = one_longer (ltb n 10) k (48 + n) (48 + n % 10) (digits k (n / 10)) (digits_short k (n / 10))

pub figure_short : (n : ℕ) → length (figure n) ≤ 5
unfolding figure
figure_short n = digits_short 5 n
