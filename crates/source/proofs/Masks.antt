-- A mask and its bits.
use Rattle.std.proofs.Common.{◌≡◌, ℕ, zero, suc, ◌+◌, ◌*◌, ◌/◌, ◌%◌, ◌^◌, ◌<◌, Bool, true, cond, eqb, sym, ap, ◌∙◌, subst, ⊎_elim, arith}
use native.Mathlib.Nat.{pow-succ'}
use Rattle.std.proofs.lemmas.Nat.{shr_high, mod_low}
use Rattle.std.proofs.lemmas.Bool.{cond_both, cases_eq}
use Rattle.lts.specs.Labels.{member}
use Rattle.lts.specs.Machines.{Machine, initial}
use Rattle.source.specs.Masks.{mask_below, initials_mask}
use Rattle.labels.proofs.Bits.{member_low, member_above, same_members}

mask_fits : (n : ℕ) (f : ℕ → Bool) → mask_below n f < 2 ^ n
unfolding mask_below
mask_fits zero f = omega arith
mask_fits (suc n) f =
    let p = pow-succ' 2 n in
    let r = mask_fits n f in
    cond_both (f n) (2 ^ n) 0 (λ x. x + mask_below n f < 2 ^ suc n) (λ e. omega arith) (λ e. omega arith)

-- bit n above a number of n bits
top_here : (n m : ℕ) → m < 2 ^ n → member (2 ^ n + m) n ≡ true
top_here n m h =
    let e : 2 ^ n + m ≡ 1 * 2 ^ n + m = omega arith in
    ap (λ (x : ℕ). eqb (x / 2 ^ n % 2) 1) e ∙ ap (λ (x : ℕ). eqb (x % 2) 1) (shr_high 1 n m h)

top_below : (n m a : ℕ) → m < 2 ^ n → a < n → member (2 ^ n + m) a ≡ member m a
top_below n m a h k =
    let e : 2 ^ n + m ≡ 1 * 2 ^ n + m = omega arith in
    sym (member_low (2 ^ n + m) n a k) ∙ ap (λ (x : ℕ). member (x % 2 ^ n) a) e ∙ ap (λ (x : ℕ). member x a) (mod_low 1 n m h)

-- from the mask to its bits
pub mask_member : (n : ℕ) (f : ℕ → Bool) (a : ℕ) → a < n → member (mask_below n f) a ≡ f a
unfolding mask_below
mask_member zero f a h = absurd (omega arith)
mask_member (suc n) f a h =
    let m = mask_below n f in
    let l = mask_fits n f in
    let z : m ≡ 0 + m = omega arith in
    ⊎_elim
    (λ (i : n ≡ a).
    subst (λ (b : ℕ). member (cond (f n) (2 ^ n) 0 + m) b ≡ f b) i
    (cond_both (f n) (2 ^ n) 0 (λ x. member (x + m) n ≡ f n) (λ e. top_here n m l ∙ sym e)
    (λ e. ap (λ (x : ℕ). member x n) (sym z) ∙ member_above m n n l (omega arith) ∙ sym e)))
    (λ (i : n ≡ a → ⊥).
    let r = mask_member n f a (omega arith) in
    cond_both (f n) (2 ^ n) 0 (λ x. member (x + m) a ≡ f a) (λ e. top_below n m a l (omega arith) ∙ r)
    (λ e. ap (λ (x : ℕ). member x a) (sym z) ∙ r))
    (cases_eq n a)

-- from the bits to the mask
pub mask_from : (n x : ℕ) (f : ℕ → Bool) → x < 2 ^ n → ((a : ℕ) → a < n → member x a ≡ f a) → x ≡ mask_below n f
mask_from n x f h e = same_members n x (mask_below n f) h (mask_fits n f) (λ k l. e k l ∙ sym (mask_member n f k l))

-- what a set that a source answered holds
pub initials_member : (M : Machine) (p x : ℕ) → x ≡ initials_mask M p → (a : ℕ) → a < 64 → member x a ≡ initial M p a
initials_member M p x e a h = ap (λ (y : ℕ). member y a) e ∙ mask_member 64 (initial M p) a h
