-- How many ranks are 0.
use Rattle.std.proofs.Common.{◌≡◌, ℕ, zero, suc, ◌+◌, ◌<◌, Bool, true, false, cond, eqb, List, ◌∷◌, Option, length, get_or, Some, sym, refl, ap, ◌∙◌, arith}
use Rattle.std.proofs.iter.Yields.{nat_range_steps}
use Rattle.std.proofs.iter.runs.Sources.{range_runs}
use Rattle.std.proofs.lemmas.List.{ext_get_or}
use Rattle.std.proofs.lemmas.List.FromFn.{length-range_with_len, get_or-range_with_len}
use Rattle.std.specs.Fn.{CalledAt}
use Rattle.std.specs.Iterator.Adapters.{filter_steps}
use Rattle.std.specs.Iterator.Runs.{Run, SomeRun, WholeRun, EachRunFrom, IsFilterRun}
use Rattle.std.specs.List.{filter, range_with_len}
use Rattle.std.specs.declared.iter.Filter.{Filter}
use Rattle.std.specs.declared.ops.Range.{Range}
use denote.Param.Members.{Mut}
use denote.Ref.{Bor}
use Rattle.judge.specs.Verdicts.{zeros_below}

-- the zeros of a first number, and those behind it
zeros_front : (n : ℕ) (f : ℕ → ℕ) → zeros_below (suc n) f ≡ cond (eqb (f 0) 0) 1 0 + zeros_below n (λ k. f (suc k))
unfolding zeros_below
zeros_front zero f = refl
zeros_front (suc n) f = omega (arith, zeros_front n f)

-- two lists of ranks that agree
pub zeros_same : (n : ℕ) (f g : ℕ → ℕ) → ((i : ℕ) → i < n → f i ≡ g i) → zeros_below n f ≡ zeros_below n g
unfolding zeros_below
zeros_same zero f g h = refl
zeros_same (suc n) f g h =
    ap (λ (x : ℕ). cond (eqb x 0) 1 0 + zeros_below n f) (h n (omega arith)) ∙ ap (λ (x : ℕ). cond (eqb (g n) 0) 1 0 + x) (zeros_same n f g (λ i l. h i (omega arith)))

-- one element more, if it passes
one_more : (b : Bool) (x : ℕ) (xs : List ℕ) → length (cond b (x ∷ xs) xs) ≡ cond b 1 0 + length xs
one_more true x xs = omega arith
one_more false x xs = omega arith

-- how many numbers of a range have a zero
range_zeros : (f : ℕ → ℕ) (n a : ℕ) → length (filter (λ i. eqb (f i) 0) (range_with_len a n)) ≡ zeros_below n (λ k. f (a + k))
unfolding zeros_below
range_zeros f zero a = refl
range_zeros f (suc n) a =
    let more = range_zeros f n (a + 1) ∙ zeros_same n (λ k. f (a + 1 + k)) (λ k. f (a + suc k)) (λ k _. ap f (omega arith)) in
    let here : f (a + 0) ≡ f a = ap f (omega arith) in
    one_more (eqb (f a) 0) a (filter (λ i. eqb (f i) 0) (range_with_len (a + 1) n)) ∙ ap (λ (x : ℕ). cond (eqb (f a) 0) 1 0 + x) more
    ∙ ap (λ (x : ℕ). cond (eqb x 0) 1 0 + zeros_below n (λ k. f (a + suc k))) (sym here) ∙ sym (zeros_front n (λ k. f (a + k)))

-- the items of a whole run over the numbers below n
range_items : (n : ℕ) (q : Run nat_range_steps) → q.from ≡ record { start = 0; end = n } → q.whole ≡ true → q.items ≡ range_with_len 0 n
range_items n q e w =
    let c = range_runs q q.seen in
    let a : q.from.start ≡ 0 = ap (λ r. r.start) e in
    let b : q.from.end ≡ n = ap (λ r. r.end) e in
    let long : q.len ≡ n = omega (arith, c.1 w) in
    ext_get_or 0 q.items (range_with_len 0 n) (omega (arith, q.long, length-range_with_len 0 n))
    (λ i l.
    let h : i < q.len = omega (arith, q.long) in
    let s : ◌≡◌ {A = Option ℕ} (Some (get_or q.items i 0)) (Some (q.from.start + i)) = sym (q.reads i 0 h) ∙ c.3 i h in
    let t : get_or q.items i 0 ≡ q.from.start + i = cc in
    omega (arith, get_or-range_with_len 0 n i 0 (omega arith)))

-- what `filter` and `count` find among the numbers below n
pub zeros_counted : {F : Type 0} {g : Mut F (Bor ℕ × Unit {0}) Bool} {s : Range ℕ} {h : F} {found : Filter (Range ℕ) F} (n : ℕ) (f : ℕ → ℕ) (r : ℕ) →
    WholeRun (filter_steps nat_range_steps g) found (λ p. r ≡ p.len) →
    EachRunFrom (filter_steps nat_range_steps g) found (λ p. SomeRun nat_range_steps s (λ q. IsFilterRun p q g h)) →
    s ≡ record { start = 0; end = n } → ((x : ℕ) (b : Bool) (q : F) → CalledAt g h x b q → (q ≡ h) × (b ≡ eqb (f x) 0)) → r ≡ zeros_below n f
zeros_counted n f r (p, e, w, len) runs es calls =
    let q = runs p p.seen e in
    let test : ℕ → Bool = λ i. eqb (f i) 0 in
    let items = q.2.4 test calls in
    len ∙ p.long ∙ ap length (items ∙ ap (filter test) (range_items n q.0 (q.1 ∙ es) (q.2.0 ∙ w))) ∙ range_zeros f n 0
    ∙ zeros_same n (λ k. f (0 + k)) f (λ k _. ap f (omega arith))
