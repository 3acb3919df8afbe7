-- The lowest label of a set, the set without it, and a test over the labels of a set.
use Rattle.std.proofs.Common.{◌≡◌, ℕ, zero, suc, ◌-◌, ◌*◌, ◌/◌, ◌%◌, ◌^◌, ◌<◌, Bool, true, false, not, ◌&&◌, ◌||◌, eqb, sym, refl, ap, ◌∙◌, subst, ⊎_elim, arith}
use native.Mathlib.Nat.{pow-succ'}
use lib.Bits.{bit_and}
use lib.Count.{count_trailing_zeros, under}
use Rattle.std.proofs.lemmas.Nat.{and_le_l}
use Rattle.std.proofs.lemmas.Bool.{eq-eqb, ne_eqb, cases_eq, cases_Bool, both_ways, not-true, and_parts, and_from, and_right, or_cases, or_left, or_right}
use Rattle.lts.specs.Labels.{member}
use Rattle.lts.specs.Machines.{some_below}
use Rattle.lts.specs.Some.{same, some_in, some_out}
use Rattle.labels.specs.Sets.{Lowest, Taken}
use Rattle.labels.proofs.Bits.{member_and, member_first, member_suc, member_none, member_rest, member_one_shl}

-- whether some label of the set passes a test
abbrev pub some_member : ℕ → (ℕ → Bool) → Bool
some_member x f = some_below 64 (λ k. member x k && f k)

-- no member at 0, and none of the half below t
below_suc : (x t : ℕ) → member x 0 ≡ false → ((a : ℕ) → a < t → member (x / 2) a ≡ false) → (a : ℕ) → a < suc t → member x a ≡ false
below_suc x t z f zero l = z
below_suc x t z f (suc a) l = member_suc x a ∙ f a (omega arith)

-- where the zeros below the lowest bit end
low_member : (n x : ℕ) → x < 2 ^ n → (x ≡ 0 → ⊥) → (count_trailing_zeros n x < n) × (member x (count_trailing_zeros n x) ≡ true) × ((a : ℕ) → a < count_trailing_zeros n x → member x a ≡ false)
unfolding count_trailing_zeros
low_member zero x h e = absurd (e (omega arith))
low_member (suc n) x h e =
    let p = pow-succ' 2 n in
    let t = count_trailing_zeros n (x / 2) in
    ⊎_elim
    (λ (z : x % 2 ≡ 0).
    let r = low_member n (x / 2) (omega arith) (λ i. e (omega arith)) in
    let u : under (x % 2) t ≡ suc t = ap (λ (d : ℕ). under d t) z in
    let none : (a : ℕ) → a < suc t → member x a ≡ false = below_suc x t (member_first x ∙ ap (λ (d : ℕ). eqb d 1) z) r.2 in
    (omega (arith, u, r.0), ap (λ (j : ℕ). member x j) u ∙ member_suc x t ∙ r.1, λ a l. none a (omega (arith, u))))
    (λ (z : x % 2 ≡ 0 → ⊥).
    let o : x % 2 ≡ 1 = omega arith in
    let u : under (x % 2) t ≡ 0 = ap (λ (d : ℕ). under d t) o in
    (omega (arith, u), ap (λ (j : ℕ). member x j) u ∙ member_first x ∙ eq-eqb (x % 2) 1 o, λ a l. absurd (omega (arith, u))))
    (cases_eq (x % 2) 0)

pub lowest_member : (x : ℕ) → x < 2 ^ 64 → (x ≡ 0 → ⊥) → Lowest x (count_trailing_zeros 64 x)
lowest_member x h e = let r = low_member 64 x h e in record { visible = r.0; inside = r.1; none_below = r.2 }

-- x without label k
abbrev pub less : ℕ → ℕ → ℕ
less x k = bit_and x (2 ^ 64 - 1 - (1 * 2 ^ k) % 2 ^ 64)

member_less : (x k a : ℕ) → k < 64 → a < 64 → member (less x k) a ≡ (member x a && not (eqb k a))
member_less x k a h i =
    let one = (1 * 2 ^ k) % 2 ^ 64 in
    member_and x (2 ^ 64 - 1 - one) a
    ∙ ap (λ (b : Bool). member x a && b) (member_rest 64 one a (omega arith) i ∙ ap not (member_one_shl 64 k a h))

less_below : (x k : ℕ) → k < 64 → member x k ≡ true → less x k < x
less_below x k h m =
    let le = and_le_l x (2 ^ 64 - 1 - (1 * 2 ^ k) % 2 ^ 64) in
    ⊎_elim
    (λ (e : less x k ≡ x).
    absurd (both_ways (member (less x k) k) (member_less x k k h h ∙ and_right (member x k) (not (eqb k k)) (ap not (eq-eqb k k refl))) (ap (λ (z : ℕ). member z k) e ∙ m)))
    (λ (e : less x k ≡ x → ⊥). omega arith)
    (cases_eq (less x k) x)

pub take_member : (x k : ℕ) → Lowest x k → Taken x k (less x k)
take_member x k l = record {
  lowest = l;
  rest = λ a h. member_less x k a l.visible h;
  fewer = less_below x k l.visible l.inside;
}

-- the label that is taken is the one test more
pub some_taken : (x k y : ℕ) (f : ℕ → Bool) → Taken x k y → some_member x f ≡ (f k || some_member y f)
some_taken x k y f t =
    same (some_member x f) (f k || some_member y f)
    (λ e.
    let o = some_out 64 (λ j. member x j && f j) e in
    let b = and_parts (member x o.0) (f o.0) o.2 in
    ⊎_elim
    (λ (i : k ≡ o.0). or_left (f k) (some_member y f) (subst (λ (j : ℕ). f j ≡ true) (sym i) b.1))
    (λ (i : k ≡ o.0 → ⊥).
    or_right (f k) (some_member y f) (some_in 64 (λ j. member y j && f j) o.0 o.1
    (and_from (member y o.0) (f o.0) (t.rest o.0 o.1 ∙ and_from (member x o.0) (not (eqb k o.0)) b.0 (ap not (ne_eqb k o.0 i))) b.1)))
    (cases_eq k o.0))
    (λ e.
    ⊎_elim
    (λ (i : f k ≡ true). some_in 64 (λ j. member x j && f j) k t.lowest.visible (and_from (member x k) (f k) t.lowest.inside i))
    (λ (i : some_member y f ≡ true).
    let o = some_out 64 (λ j. member y j && f j) i in
    let b = and_parts (member y o.0) (f o.0) o.2 in
    let c = and_parts (member x o.0) (not (eqb k o.0)) (sym (t.rest o.0 o.1) ∙ b.0) in
    some_in 64 (λ j. member x j && f j) o.0 o.1 (and_from (member x o.0) (f o.0) c.0 b.1))
    (or_cases (f k) (some_member y f) e))

-- a label that passes is taken
pub some_found : (x k y : ℕ) (f : ℕ → Bool) → Taken x k y → f k ≡ true → some_member x f ≡ true
some_found x k y f t e = some_taken x k y f t ∙ or_left (f k) (some_member y f) e

-- a label that does not pass is taken
pub some_passed : (x k y : ℕ) (f : ℕ → Bool) → Taken x k y → f k ≡ false → some_member y f ≡ some_member x f
some_passed x k y f t e = sym (some_taken x k y f t ∙ ap (λ (b : Bool). b || some_member y f) e)

-- no label of the empty set passes
pub some_empty : (x : ℕ) (f : ℕ → Bool) → x ≡ 0 → some_member x f ≡ false
some_empty x f z =
    ⊎_elim
    (λ (t : some_member x f ≡ true).
    let o = some_out 64 (λ j. member x j && f j) t in
    absurd (both_ways (member x o.0) (ap (λ (y : ℕ). member y o.0) z ∙ member_none o.0) (and_parts (member x o.0) (f o.0) o.2).0))
    (λ (t : some_member x f ≡ false). t)
    (cases_Bool (some_member x f))

-- a set that is not empty has a member
pub some_label : (x : ℕ) → x < 2 ^ 64 → not (eqb x 0) ≡ some_below 64 (λ k. member x k)
some_label x h =
    same (not (eqb x 0)) (some_below 64 (λ k. member x k))
    (λ e.
    let l = lowest_member x h (λ z. both_ways (eqb x 0) (not-true (eqb x 0) e) (eq-eqb x 0 z)) in
    some_in 64 (λ k. member x k) (count_trailing_zeros 64 x) l.visible l.inside)
    (λ e.
    let r = some_out 64 (λ k. member x k) e in
    ap not (ne_eqb x 0 (λ z. both_ways (member x r.0) (ap (λ (y : ℕ). member y r.0) z ∙ member_none r.0) r.2)))

-- tests that agree on the labels of the two sets
pub some_alike : (f g : ℕ → Bool) → ((k : ℕ) → k < 64 → f k ≡ g k) → some_below 64 f ≡ some_below 64 g
some_alike f g e =
    same (some_below 64 f) (some_below 64 g)
    (λ t. let o = some_out 64 f t in some_in 64 g o.0 o.1 (sym (e o.0 o.1) ∙ o.2))
    (λ t. let o = some_out 64 g t in some_in 64 f o.0 o.1 (e o.0 o.1 ∙ o.2))
