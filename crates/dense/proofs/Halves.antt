-- A row's members, half by half.
use Rattle.std.proofs.Common.{◌≡◌, ℕ, ◌+◌, ◌-◌, ◌^◌, ◌<◌, ◌≤◌, Bool, true, false, not, eqb, ltb, sym, ap, ◌∙◌, ⊎_elim, arith}
use Rattle.std.proofs.lemmas.Bool.{cond-true, cond-false, lt-ltb, le-ltb, cases_lt, eq-eqb, ne_eqb, cases_eq, cases_Bool, both_ways}
use Rattle.lts.specs.Labels.{member}
use Rattle.lts.specs.Machines.{some_below}
use Rattle.lts.specs.Some.{some_in, some_out}
use Rattle.labels.proofs.Bits.{member_none, same_members}
use Rattle.dense.specs.declared.row.Row.{Row}
use Rattle.dense.specs.Rows.{in_row}

-- a member of the low half
pub low_half : (r : Row) (q : ℕ) → q < 128 → in_row r q ≡ member r.low q
low_half r q h = cond-true (ltb q 128) (member r.low q) (member r.high (q - 128)) (lt-ltb q 128 h)

-- and of the high one
pub high_half : (r : Row) (q : ℕ) → 128 ≤ q → in_row r q ≡ member r.high (q - 128)
high_half r q h = cond-false (ltb q 128) (member r.low q) (member r.high (q - 128)) (le-ltb q 128 h)

-- what holds of both halves holds of the row
pub halves : (r : Row) (f : ℕ → Bool) (q : ℕ) → (q < 128 → member r.low q ≡ f q) → (128 ≤ q → member r.high (q - 128) ≡ f q) → in_row r q ≡ f q
halves r f q a b = ⊎_elim (λ (h : q < 128). low_half r q h ∙ a h) (λ (h : 128 ≤ q). high_half r q h ∙ b h) (cases_lt q 128)

-- two halves without a bit have no member
pub none_in : (r : Row) → r.low ≡ 0 → r.high ≡ 0 → (q : ℕ) → in_row r q ≡ false
none_in r a b q = halves r (λ _. false) q (λ _. ap (λ (x : ℕ). member x q) a ∙ member_none q) (λ _. ap (λ (x : ℕ). member x (q - 128)) b ∙ member_none (q - 128))

-- a half that no test finds a bit in has none
no_bits : (x : ℕ) → x < 2 ^ 128 → ((k : ℕ) → k < 128 → member x k ≡ false) → x ≡ 0
no_bits x h f = same_members 128 x 0 h (omega arith) (λ k l. f k l ∙ sym (member_none k))

-- where no state is a member, both halves are 0
pub none_out : (r : Row) → r.low < 2 ^ 128 → r.high < 2 ^ 128 → some_below 256 (in_row r) ≡ false → (r.low ≡ 0) × (r.high ≡ 0)
none_out r a b e =
    let out : (q : ℕ) → q < 256 → in_row r q ≡ false =
    (λ q h. ⊎_elim (λ (t : in_row r q ≡ true). absurd (both_ways (some_below 256 (in_row r)) e (some_in 256 (in_row r) q h t))) (λ t. t) (cases_Bool (in_row r q))) in (
      no_bits r.low a (λ k h. sym (low_half r k h) ∙ out k (omega arith)),
      no_bits r.high b (λ k h.
          let z : 128 + k - 128 ≡ k = omega arith in
          ap (λ (x : ℕ). member r.high x) (sym z) ∙ sym (high_half r (128 + k) (omega arith)) ∙ out (128 + k) (omega arith)),
    )

-- and back
pub none_some : (r : Row) → r.low ≡ 0 → r.high ≡ 0 → some_below 256 (in_row r) ≡ false
none_some r a b = ⊎_elim
    (λ (t : some_below 256 (in_row r) ≡ true). let o = some_out 256 (in_row r) t in absurd (both_ways (in_row r o.0) (none_in r a b o.0) o.2))
    (λ (t : some_below 256 (in_row r) ≡ false). t)
    (cases_Bool (some_below 256 (in_row r)))

-- a set without members is told by its halves
pub empty_is : (r : Row) → r.low < 2 ^ 128 → r.high < 2 ^ 128 → r.low ≡ 0 → eqb r.high 0 ≡ not (some_below 256 (in_row r))
empty_is r a b z = ⊎_elim
    (λ (t : some_below 256 (in_row r) ≡ true). ne_eqb r.high 0 (λ e. both_ways (some_below 256 (in_row r)) (none_some r z e) t) ∙ sym (ap not t))
    (λ (t : some_below 256 (in_row r) ≡ false). eq-eqb r.high 0 (none_out r a b t).1 ∙ sym (ap not t))
    (cases_Bool (some_below 256 (in_row r)))

-- and one with a bit in its low half has some
pub full_is : (r : Row) → r.low < 2 ^ 128 → r.high < 2 ^ 128 → (r.low ≡ 0 → ⊥) → false ≡ not (some_below 256 (in_row r))
full_is r a b z = ⊎_elim
    (λ (t : some_below 256 (in_row r) ≡ true). sym (ap not t))
    (λ (t : some_below 256 (in_row r) ≡ false). absurd (z (none_out r a b t).0))
    (cases_Bool (some_below 256 (in_row r)))

-- a state of the high half, counted from its beginning
pub shifted : (s q : ℕ) → 128 ≤ s → 128 ≤ q → eqb (s - 128) (q - 128) ≡ eqb s q
shifted s q a b = ⊎_elim
    (λ (e : s ≡ q). eq-eqb (s - 128) (q - 128) (omega arith) ∙ sym (eq-eqb s q e))
    (λ (e : s ≡ q → ⊥). ne_eqb (s - 128) (q - 128) (λ i. e (omega arith)) ∙ sym (ne_eqb s q e))
    (cases_eq s q)
