-- Labels of the two directions: the low half of a set of labels receives, the high half sends.
use Rattle.std.proofs.Common.{◌≡◌, ℕ, ◌+◌, ◌-◌, ◌*◌, ◌/◌, ◌%◌, ◌^◌, ◌<◌, ◌≤◌, Bool, not, ◌&&◌, ◌||◌, ap, ◌∙◌, ⊎_elim, arith}
use lib.Bits.{bit_and, bit_or}
use Rattle.std.proofs.lemmas.Nat.{or_lt}
use Rattle.std.proofs.lemmas.Bool.{cases_lt}
use Rattle.lts.specs.Labels.{member, complement, name_of}
use Rattle.labels.proofs.Bits.{or_false, member_and, member_or, member_rest, member_low, member_under, member_shr, member_shl, member_above}

-- what `rotate_left(32)` gives: each label's complement
pub member_turned : (x a : ℕ) → x < 2 ^ 64 → a < 64 → member (bit_or ((x * 2 ^ 32) % 2 ^ 64) (x / 2 ^ 32)) a ≡ member x (complement a)
member_turned x a h k =
    member_or ((x * 2 ^ 32) % 2 ^ 64) (x / 2 ^ 32) a
    ∙ ap (λ (b : Bool). b || member (x / 2 ^ 32) a) (member_low (x * 2 ^ 32) 64 a k)
    ∙ ⊎_elim
    (λ (l : a < 32).
    let z : 32 + a ≡ complement a = omega arith in
    ap (λ (b : Bool). b || member (x / 2 ^ 32) a) (member_under x 32 a l)
    ∙ member_shr x 32 a ∙ ap (λ (b : ℕ). member x b) z)
    (λ (l : 32 ≤ a).
    let z : a ≡ 32 + (a - 32) = omega arith in
    let y : a - 32 ≡ complement a = omega arith in
    ap (λ (b : Bool). member (x * 2 ^ 32) a || b) (member_above (x / 2 ^ 32) 32 a (omega arith) l)
    ∙ or_false (member (x * 2 ^ 32) a)
    ∙ ap (λ (b : ℕ). member (x * 2 ^ 32) b) z ∙ member_shl x 32 (a - 32) ∙ ap (λ (b : ℕ). member x b) y)
    (cases_lt a 32)

-- the labels of x whose complement is in y
pub member_meeting : (x y t a : ℕ) → y < 2 ^ 64 → t ≡ bit_or ((y * 2 ^ 32) % 2 ^ 64) (y / 2 ^ 32) → a < 64
    → member (bit_and x t) a ≡ (member x a && member y (complement a))
member_meeting x y t a h e k =
    member_and x t a ∙ ap (λ (b : Bool). member x a && b) (ap (λ (z : ℕ). member z a) e ∙ member_turned y a h k)

-- the names of a set, as the labels of both directions
member_both : (x a : ℕ) → x < 2 ^ 32 → a < 64 → member (bit_or x ((x * 2 ^ 32) % 2 ^ 64)) a ≡ member x (name_of a)
member_both x a h k =
    member_or x ((x * 2 ^ 32) % 2 ^ 64) a
    ∙ ap (λ (b : Bool). member x a || b) (member_low (x * 2 ^ 32) 64 a k)
    ∙ ⊎_elim
    (λ (l : a < 32).
    let z : a ≡ name_of a = omega arith in
    ap (λ (b : Bool). member x a || b) (member_under x 32 a l) ∙ or_false (member x a) ∙ ap (λ (b : ℕ). member x b) z)
    (λ (l : 32 ≤ a).
    let z : a ≡ 32 + (a - 32) = omega arith in
    let y : a - 32 ≡ name_of a = omega arith in
    ap (λ (b : Bool). b || member (x * 2 ^ 32) a) (member_above x 32 a h l)
    ∙ ap (λ (b : ℕ). member (x * 2 ^ 32) b) z ∙ member_shl x 32 (a - 32) ∙ ap (λ (b : ℕ). member x b) y)
    (cases_lt a 32)

and_swap : (a b : Bool) → (a && b) ≡ (b && a)
and_swap a b = grind arith

-- the labels of x whose name is not in the set
pub member_without : (x names a : ℕ) → names < 2 ^ 32 → a < 64
    → member (bit_and x (2 ^ 64 - 1 - bit_or names ((names * 2 ^ 32) % 2 ^ 64))) a ≡ (not (member names (name_of a)) && member x a)
member_without x names a h k =
    let both = bit_or names ((names * 2 ^ 32) % 2 ^ 64) in
    let l : both < 2 ^ 64 = or_lt 64 names ((names * 2 ^ 32) % 2 ^ 64) (omega arith) (omega arith) in
    member_and x (2 ^ 64 - 1 - both) a
    ∙ ap (λ (b : Bool). member x a && b) (member_rest 64 both a l k ∙ ap not (member_both names a h k))
    ∙ and_swap (member x a) (not (member names (name_of a)))
