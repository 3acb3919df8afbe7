-- The members of the sets that operations on bits make.
use Rattle.std.proofs.Common.{◌≡◌, ℕ, zero, suc, ◌+◌, ◌-◌, ◌*◌, ◌/◌, ◌%◌, ◌^◌, ◌<◌, ◌≤◌, min, max, Bool, true, false, not, ◌&&◌, ◌||◌, eqb, sym, refl, ap, ◌∙◌, ⊎_elim, arith, pow_mono}
use native.Mathlib.Nat.{pow-succ', div-eq_of_lt}
use lib.Bits.{bit_and, bit_or, and_step, or_step, shifted_even, shifted_half}
use Rattle.std.proofs.lemmas.Nat.{one_shl, and_shr, or_shr, shr-shr, shl-shr, and_mask, pow_pos}
use Rattle.std.proofs.lemmas.Bool.Decides.{nat_tests}
use Rattle.std.proofs.lemmas.Bool.{eq-eqb, ne_eqb, eqb-true, eqb-false, cases_order, cases_Bool}
use Rattle.lts.specs.Labels.{member}

pub and_true : (b : Bool) → (b && true) ≡ b
and_true true = refl
and_true false = refl

pub or_false : (b : Bool) → (b || false) ≡ b
or_false true = refl
or_false false = refl

pub or_regroup : (a b c : Bool) → (a || (b || c)) ≡ ((a || b) || c)
or_regroup true b c = refl
or_regroup false b c = refl

odd_and : (u v : ℕ) → u < 2 → v < 2 → eqb (min u v) 1 ≡ (eqb u 1 && eqb v 1)
odd_and u v h k = grind (arith, nat_tests)

odd_or : (u v : ℕ) → u < 2 → v < 2 → eqb (max u v) 1 ≡ (eqb u 1 || eqb v 1)
odd_or u v h k = grind (arith, nat_tests)

pub member_and : (x y a : ℕ) → member (bit_and x y) a ≡ (member x a && member y a)
member_and x y a =
    let X = x / 2 ^ a in
    let Y = y / 2 ^ a in
    let e : bit_and x y / 2 ^ a % 2 ≡ min (X % 2) (Y % 2) = omega (arith, and_shr x y a, and_step X Y) in
    ap (λ (n : ℕ). eqb n 1) e ∙ odd_and (X % 2) (Y % 2) (omega arith) (omega arith)

pub member_or : (x y a : ℕ) → member (bit_or x y) a ≡ (member x a || member y a)
member_or x y a =
    let X = x / 2 ^ a in
    let Y = y / 2 ^ a in
    let e : bit_or x y / 2 ^ a % 2 ≡ max (X % 2) (Y % 2) = omega (arith, or_shr x y a, or_step X Y) in
    ap (λ (n : ℕ). eqb n 1) e ∙ odd_or (X % 2) (Y % 2) (omega arith) (omega arith)

-- bit 0, and the bits above it
pub member_first : (x : ℕ) → member x 0 ≡ eqb (x % 2) 1
member_first x = let e : x / 1 % 2 ≡ x % 2 = omega arith in ap (λ (n : ℕ). eqb n 1) e

pub member_suc : (x a : ℕ) → member x (suc a) ≡ member (x / 2) a
member_suc x a =
    let e : 1 + a ≡ suc a = omega arith in
    ap (λ (n : ℕ). eqb (x / 2 ^ n % 2) 1) (sym e) ∙ ap (λ (n : ℕ). eqb (n % 2) 1) (sym (shr-shr x 1 a))

pub member_none : (a : ℕ) → member 0 a ≡ false
member_none zero = refl
member_none (suc a) = member_suc 0 a ∙ member_none a

-- the numbers below n that are not members of x
pub member_rest : (n x a : ℕ) → x < 2 ^ n → a < n → member (2 ^ n - 1 - x) a ≡ not (member x a)
member_rest zero x a h k = absurd (omega arith)
member_rest (suc n) x zero h k =
    let p = pow-succ' 2 n in
    let e : eqb ((2 ^ suc n - 1 - x) % 2) 1 ≡ not (eqb (x % 2) 1) = grind (arith, nat_tests) in
    member_first (2 ^ suc n - 1 - x) ∙ e ∙ ap not (sym (member_first x))
member_rest (suc n) x (suc a) h k =
    let p = pow-succ' 2 n in
    let e : (2 ^ suc n - 1 - x) / 2 ≡ 2 ^ n - 1 - x / 2 = omega arith in
    member_suc (2 ^ suc n - 1 - x) a ∙ ap (λ (y : ℕ). member y a) e
    ∙ member_rest n (x / 2) a (omega arith) (omega arith)
    ∙ ap not (sym (member_suc x a))

-- the low n bits stay
pub member_low : (x n a : ℕ) → a < n → member (x % 2 ^ n) a ≡ member x a
member_low x n a h =
    let m : member (2 ^ n - 1) a ≡ true =
    (let e : 2 ^ n - 1 ≡ 2 ^ n - 1 - 0 = omega arith in
    ap (λ (y : ℕ). member y a) e ∙ member_rest n 0 a (pow_pos n) h ∙ ap not (member_none a))
    in
    ap (λ (y : ℕ). member y a) (sym (and_mask x n)) ∙ member_and x (2 ^ n - 1) a
    ∙ ap (λ (b : Bool). member x a && b) m ∙ and_true (member x a)

-- a shift to the left leaves nothing below
pub member_under : (w n a : ℕ) → a < n → member (w * 2 ^ n) a ≡ false
member_under w zero a h = absurd (omega arith)
member_under w (suc n) zero h = member_first (w * 2 ^ suc n) ∙ ap (λ (y : ℕ). eqb y 1) (shifted_even w n)
member_under w (suc n) (suc a) h =
    member_suc (w * 2 ^ suc n) a ∙ ap (λ (y : ℕ). member y a) (shifted_half w n) ∙ member_under w n a (omega arith)

pub member_shr : (x n a : ℕ) → member (x / 2 ^ n) a ≡ member x (n + a)
member_shr x n a = ap (λ (y : ℕ). eqb (y % 2) 1) (shr-shr x n a)

pub member_shl : (w n a : ℕ) → member (w * 2 ^ n) (n + a) ≡ member w a
member_shl w n a = sym (member_shr (w * 2 ^ n) n a) ∙ ap (λ (y : ℕ). member y a) (shl-shr w n)

-- a number of n bits has no member from n on
pub member_above : (x n a : ℕ) → x < 2 ^ n → n ≤ a → member x a ≡ false
member_above x n a h k =
    let p : 2 ^ n ≤ 2 ^ a = pow_mono k in
    let q : x / 2 ^ a ≡ 0 = div-eq_of_lt (omega arith) in
    ap (λ (y : ℕ). eqb (y % 2) 1) q

member_one : (k a : ℕ) → member (1 * 2 ^ k) a ≡ eqb k a
member_one k a =
    ⊎_elim
    (λ (e : k ≡ a).
    let z : a ≡ k + 0 = omega arith in
    ap (λ (b : ℕ). member (1 * 2 ^ k) b) z ∙ member_shl 1 k 0 ∙ sym (eq-eqb k a e))
    (⊎_elim
    (λ (e : k < a).
    let z : a ≡ k + (a - k) = omega arith in
    ap (λ (b : ℕ). member (1 * 2 ^ k) b) z ∙ member_shl 1 k (a - k) ∙ member_above 1 1 (a - k) (omega arith) (omega arith)
    ∙ sym (ne_eqb k a (λ i. omega arith)))
    (λ (e : a < k). member_under 1 k a e ∙ sym (ne_eqb k a (λ i. omega arith))))
    (cases_order k a)

-- `1 << k` at a type of w bits has the member k
pub member_one_shl : (w k a : ℕ) → k < w → member ((1 * 2 ^ k) % 2 ^ w) a ≡ eqb k a
member_one_shl w k a h =
    let e : 2 ^ k ≡ 1 * 2 ^ k = omega arith in
    ap (λ (y : ℕ). member y a) (one_shl k w h ∙ e) ∙ member_one k a

-- the lowest bit of two numbers is the same
same_first : (x y : ℕ) → member x 0 ≡ member y 0 → x % 2 ≡ y % 2
same_first x y e =
    let f = sym (member_first x) ∙ e ∙ member_first y in
    ⊎_elim
    (λ (t : eqb (y % 2) 1 ≡ true). eqb-true (x % 2) 1 (f ∙ t) ∙ sym (eqb-true (y % 2) 1 t))
    (λ (t : eqb (y % 2) 1 ≡ false). let u = eqb-false (x % 2) 1 (f ∙ t) in let v = eqb-false (y % 2) 1 t in omega arith)
    (cases_Bool (eqb (y % 2) 1))

-- two numbers of n bits with the same members are equal
pub same_members : (n x y : ℕ) → x < 2 ^ n → y < 2 ^ n → ((k : ℕ) → k < n → member x k ≡ member y k) → x ≡ y
same_members zero x y h i f = omega arith
same_members (suc n) x y h i f =
    let p = pow-succ' 2 n in
    let z : x / 2 ≡ y / 2 =
    same_members n (x / 2) (y / 2) (omega arith) (omega arith) (λ k l. sym (member_suc x k) ∙ f (suc k) (omega arith) ∙ member_suc y k)
    in
    let e = same_first x y (f 0 (omega arith)) in
    omega arith
