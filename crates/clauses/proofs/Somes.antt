-- Tests of the numbers below a bound.
use Rattle.std.proofs.Common.{◌≡◌, ℕ, zero, suc, ◌+◌, ◌<◌, Bool, true, false, ◌||◌, List, Option, MatchOption, sym, refl, ap, ◌∙◌, subst, ⊎_elim, arith}
use Rattle.std.proofs.lemmas.Bool.{both_ways, cases_Bool, and_parts, and_from, cases_eq}
use Rattle.std.specs.Fn.{Called}
use Rattle.std.specs.Iterator.{YieldsThen}
use Rattle.std.specs.List.{FoldsTo, list_any, range_with_len}
use Rattle.std.proofs.iter.Yields.{nat_range_steps}
use Rattle.std.proofs.lemmas.Iterator.{YieldsList-from_range}
use Rattle.std.proofs.lemmas.Iterator.Search.{any_from_yields_List}
use Rattle.std.specs.declared.ops.Range.{Range}
use denote.Param.Members.{Mut}
use Rattle.lts.specs.Machines.{some_below, each_below}
use Rattle.lts.specs.Some.{same, some_in, some_out}
pub use Rattle.dense.proofs.Tests.{some_alike}

-- the second of three in front
or_turn : (a b c : Bool) → (a || (b || c)) ≡ (b || (a || c))
or_turn true true c = refl
or_turn true false c = refl
or_turn false b c = refl

-- where none passes, each fails
pub none_at : (n : ℕ) (f : ℕ → Bool) → some_below n f ≡ false → (k : ℕ) → k < n → f k ≡ false
none_at n f e k h = ⊎_elim (λ (t : f k ≡ true). absurd (both_ways (some_below n f) e (some_in n f k h t))) (λ t. t) (cases_Bool (f k))

-- no number passes
pub all_fail : (n : ℕ) (f : ℕ → Bool) → ((k : ℕ) → k < n → f k ≡ false) → some_below n f ≡ false
all_fail n f e = ⊎_elim
    (λ (t : some_below n f ≡ true). let o = some_out n f t in absurd (both_ways (f o.0) (e o.0 o.1) o.2))
    (λ (t : some_below n f ≡ false). t)
    (cases_Bool (some_below n f))

-- each passes
pub each_out : (n : ℕ) (f : ℕ → Bool) → each_below n f ≡ true → (k : ℕ) → k < n → f k ≡ true
unfolding each_below
each_out zero f e k h = absurd (omega arith)
each_out (suc n) f e k h =
    let both = and_parts (f n) (each_below n f) e in
    ⊎_elim
    (λ (q : k ≡ n). subst (λ (j : ℕ). f j ≡ true) (sym q) both.0)
    (λ (q : k ≡ n → ⊥). each_out n f both.1 k (omega arith))
    (cases_eq k n)

-- and back
pub each_in : (n : ℕ) (f : ℕ → Bool) → ((k : ℕ) → k < n → f k ≡ true) → each_below n f ≡ true
unfolding each_below
each_in zero f h = refl
each_in (suc n) f h = and_from (f n) (each_below n f) (h n (omega arith)) (each_in n f (λ k l. h k (omega arith)))

-- tests that agree
pub each_alike : (n : ℕ) (f g : ℕ → Bool) → ((k : ℕ) → k < n → f k ≡ g k) → each_below n f ≡ each_below n g
each_alike n f g h =
    same (each_below n f) (each_below n g)
    (λ e. each_in n g (λ k l. sym (h k l) ∙ each_out n f e k l))
    (λ e. each_in n f (λ k l. h k l ∙ each_out n g e k l))

-- the first number apart from the others
some_front : (n : ℕ) (f : ℕ → Bool) → some_below (suc n) f ≡ (f 0 || some_below n (λ k. f (suc k)))
unfolding some_below
some_front zero f = refl
some_front (suc n) f = ap (λ (b : Bool). f (suc n) || b) (some_front n f) ∙ or_turn (f (suc n)) (f 0) (some_below n (λ k. f (suc k)))

-- a test of the numbers of a range, in order
pub range_any : (f : ℕ → Bool) (n a : ℕ) → list_any f (range_with_len a n) ≡ some_below n (λ k. f (a + k))
unfolding some_below
range_any f zero a = refl
range_any f (suc n) a =
    ap (λ (b : Bool). f a || b) (range_any f n (a + 1) ∙ some_alike n (λ k. f (a + 1 + k)) (λ k. f (a + suc k)) (λ k _. ap f (omega arith)))
    ∙ ap (λ (x : ℕ). f x || some_below n (λ k. f (a + suc k))) (omega arith) ∙ sym (some_front n (λ k. f (a + k)))

-- what `any` answers over the numbers below n
pub any_below : {F : Type 0} {g : Mut F (ℕ × Unit {0}) Bool} {s : Range ℕ} (n : ℕ) (test : ℕ → Bool) (u : Range ℕ) (h : F) (r : Bool) →
    (xs : List ℕ) × (o : Option ℕ) × (j : F) × YieldsThen nat_range_steps s xs o u × FoldsTo (λ p x q. Called g p (x, tt) false q) h xs j × MatchOption o (r ≡ false) (λ x. (r ≡ true) × ((i : F) × Called g j (x, tt) true i)) →
    s ≡ record { start = 0; end = n } → ((x : ℕ) (b : Bool) (q : F) → Called g h (x, tt) b q → (q ≡ h) × (b ≡ test x)) → r ≡ some_below n test
any_below n test u h r ran e calls =
    any_from_yields_List test u h r ran (YieldsList-from_range 0 n n e (omega arith)) calls
    ∙ range_any test n 0 ∙ some_alike n (λ k. test (0 + k)) test (λ k _. ap test (omega arith))
