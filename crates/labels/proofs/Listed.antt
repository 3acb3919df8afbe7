-- The members of a set as a list, lowest first.
use Rattle.std.proofs.Common.{◌≡◌, ℕ, zero, suc, ◌+◌, ◌<◌, ◌≤◌, Bool, true, false, not, ◌&&◌, eqb, List, [], ◌∷◌, Option, Some, None, MatchOption, sym, refl, ap, ◌∙◌, subst, ⊎_elim, length, rules, arith}
use Rattle.std.specs.List.{filter, list_any, range_with_len}
use Rattle.std.specs.Iterator.{YieldsFirst, MakesProgress, item_count}
use Rattle.std.proofs.lemmas.Bool.{cond-true, cond-false, eq-eqb, ne_eqb, cases_eq, cases_Bool, and_parts, and_from, or_cases, or_left, or_right, true≢false}
use Rattle.std.proofs.lemmas.Iterator.{YieldsList}
use Rattle.std.proofs.lemmas.Iterator.Consumers.{YieldsList-from_first}
use Rattle.lts.specs.Labels.{member}
use Rattle.lts.specs.Some.{same, some_in, some_out}
use Rattle.labels.specs.declared.Labels.{Labels}
use Rattle.labels.specs.declared.LabelSet.{LabelSet}
use Rattle.labels.specs.Sets.{Taken, members}
use Rattle.labels.proofs.Bits.{member_none, and_true}
use Rattle.labels.proofs.Taking.{some_member}

-- of the n numbers from a on, those that pass either of two tests that agree
filter_same : (f g : ℕ → Bool) (a n : ℕ) → ((j : ℕ) → a ≤ j → j < a + n → f j ≡ g j) → filter f (range_with_len a n) ≡ filter g (range_with_len a n)
filter_same f g a zero e = refl
filter_same f g a (suc n) e =
    let r = filter_same f g (a + 1) n (λ j h l. e j (omega arith) (omega arith)) in
    ⊎_elim
    (λ (t : g a ≡ true).
    cond-true (f a) _ _ (e a (omega arith) (omega arith) ∙ t) ∙ ap (λ (v : List ℕ). a ∷ v) r ∙ sym (cond-true (g a) _ _ t))
    (λ (t : g a ≡ false). cond-false (f a) _ _ (e a (omega arith) (omega arith) ∙ t) ∙ r ∙ sym (cond-false (g a) _ _ t))
    (cases_Bool (g a))

-- no test passes
filter_none : (f : ℕ → Bool) (a n : ℕ) → ((j : ℕ) → f j ≡ false) → filter f (range_with_len a n) ≡ []
filter_none f a zero e = refl
filter_none f a (suc n) e = cond-false (f a) _ _ (e a) ∙ filter_none f (a + 1) n e

-- the lowest number that passes, before those that pass beside it
filter_taken : (f g : ℕ → Bool) (k a n : ℕ) → a ≤ k → k < a + n → f k ≡ true → ((j : ℕ) → j < k → f j ≡ false) → ((j : ℕ) → j < a + n → g j ≡ (f j && not (eqb k j)))
    → filter f (range_with_len a n) ≡ k ∷ filter g (range_with_len a n)
filter_taken f g k a zero h l t z e = absurd (omega arith)
filter_taken f g k a (suc n) h l t z e =
    ⊎_elim
    (λ (i : k ≡ a).
    let here : f a ≡ true = subst (λ (j : ℕ). f j ≡ true) i t in
    let gone : g a ≡ false = e a (omega arith) ∙ ap (λ (b : Bool). f a && not b) (eq-eqb k a i) ∙ ap (λ (b : Bool). b && false) here in
    let others : filter f (range_with_len (a + 1) n) ≡ filter g (range_with_len (a + 1) n) =
    filter_same f g (a + 1) n (λ j b c. sym (e j (omega arith) ∙ ap (λ (b : Bool). f j && not b) (ne_eqb k j (λ q. omega arith)) ∙ and_true (f j))) in
    cond-true (f a) _ _ here ∙ ap (λ (v : List ℕ). a ∷ v) (others ∙ sym (cond-false (g a) _ _ gone)) ∙ ap (λ (j : ℕ). j ∷ filter g (range_with_len a (suc n))) (sym i))
    (λ (i : k ≡ a → ⊥).
    let none : f a ≡ false = z a (omega arith) in
    let gone : g a ≡ false = e a (omega arith) ∙ ap (λ (b : Bool). b && not (eqb k a)) none in
    cond-false (f a) _ _ none ∙ filter_taken f g k (a + 1) n (omega arith) (omega arith) t z (λ j b. e j (omega arith))
    ∙ ap (λ (v : List ℕ). k ∷ v) (sym (cond-false (g a) _ _ gone)))
    (cases_eq k a)

-- the label that is taken comes first
pub members_taken : (x k y : ℕ) → Taken x k y → members x ≡ k ∷ members y
unfolding members
members_taken x k y t =
    filter_taken (member x) (member y) k 0 64 (omega arith) t.lowest.visible t.lowest.inside t.lowest.none_below t.rest

pub members_empty : (x : ℕ) → x ≡ 0 → members x ≡ []
unfolding members
members_empty x z = filter_none (member x) 0 64 (λ j. ap (λ (y : ℕ). member y j) z ∙ member_none j)

-- whether some number of those from a on is one that passes both tests
any_in : (f p : ℕ → Bool) (a n k : ℕ) → a ≤ k → k < a + n → p k ≡ true → f k ≡ true → list_any f (filter p (range_with_len a n)) ≡ true
any_in f p a zero k h l i t = absurd (omega arith)
any_in f p a (suc n) k h l i t =
    ⊎_elim
    (λ (e : k ≡ a).
    ap (list_any f) (cond-true (p a) _ _ (subst (λ (j : ℕ). p j ≡ true) e i)) ∙ or_left (f a) _ (subst (λ (j : ℕ). f j ≡ true) e t))
    (λ (e : k ≡ a → ⊥).
    let r = any_in f p (a + 1) n k (omega arith) (omega arith) i t in
    ⊎_elim
    (λ (b : p a ≡ true). ap (list_any f) (cond-true (p a) _ _ b) ∙ or_right (f a) _ r)
    (λ (b : p a ≡ false). ap (list_any f) (cond-false (p a) _ _ b) ∙ r)
    (cases_Bool (p a)))
    (cases_eq k a)

any_out : (f p : ℕ → Bool) (a n : ℕ) → list_any f (filter p (range_with_len a n)) ≡ true → (k : ℕ) × (k < a + n) × ((p k && f k) ≡ true)
any_out f p a zero e = absurd (true≢false (sym e))
any_out f p a (suc n) e =
    let more : list_any f (filter p (range_with_len (a + 1) n)) ≡ true → (k : ℕ) × (k < a + (suc n)) × ((p k && f k) ≡ true) = λ h. (let r = any_out f p (a + 1) n h in (r.0, omega (arith, r.1), r.2)) in
    ⊎_elim
    (λ (b : p a ≡ true).
    ⊎_elim
    (λ (t : f a ≡ true). (a, omega arith, and_from (p a) (f a) b t))
    more
    (or_cases (f a) _ (sym (ap (list_any f) (cond-true (p a) _ _ b)) ∙ e)))
    (λ (b : p a ≡ false). more (sym (ap (list_any f) (cond-false (p a) _ _ b)) ∙ e))
    (cases_Bool (p a))

-- whether some label of the list passes a test
pub any_member : (x : ℕ) (f : ℕ → Bool) → list_any f (members x) ≡ some_member x f
unfolding members
any_member x f =
    same (list_any f (members x)) (some_member x f)
    (λ e. let r = any_out f (member x) 0 64 e in some_in 64 (λ k. member x k && f k) r.0 r.1 r.2)
    (λ e.
    let o = some_out 64 (λ k. member x k && f k) e in
    let b = and_parts (member x o.0) (f o.0) o.2 in
    any_in f (member x) 0 64 o.0 (omega arith) o.1 b.0 b.1)

-- what a call that takes the lowest label gives an iterator over the set
pub taken_first : (x y : Labels) (r : Option ℕ) → MatchOption r ((x.left.0 ≡ 0) × (y.left.0 ≡ 0)) (λ k. Taken x.left.0 k y.left.0)
    → YieldsFirst (λ labels. members labels.left.0) x r y
taken_first x y None e = (members_empty x.left.0 e.0, members_empty y.left.0 e.1)
taken_first x y (Some k) e = members_taken x.left.0 k y.left.0 e

pub takes_one : (x y : Labels) (r : Option ℕ) → YieldsFirst (λ labels. members labels.left.0) x r y
    → MakesProgress (λ _. Unit {0}) (item_count (λ labels. members labels.left.0)) x r y
takes_one x y None e = record { on = λ _. tt; keeps = tt; rests = λ _. tt }
takes_one x y (Some k) e = record { on = λ _. (tt, tt, search (rules, ap (length {A = ℕ}) e)); keeps = tt; rests = λ _. tt }

-- an iterator over a set gives its members
pub yields_members : (s : LabelSet) {i : Labels} → i.left ≡ s → YieldsList (YieldsFirst (λ labels. members labels.left.0)) (λ k. k) i (members s.0)
yields_members s e = YieldsList-from_first (λ k. k) (λ (labels : Labels). members labels.left.0) (members s.0) (ap (λ (t : LabelSet). members t.0) e)
