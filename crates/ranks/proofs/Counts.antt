-- How many of the numbers below n are not 0 under f.
use Rattle.std.proofs.Common.{◌≡◌, ℕ, zero, suc, ◌+◌, ◌<◌, ◌≤◌, cond, eqb, sym, subst, ⊎_elim, arith}
use Rattle.std.proofs.lemmas.Bool.{cases_eq, cond-true, cond-false, eq-eqb, ne_eqb}

-- 1 for what is not 0
abbrev weigh : ℕ → ℕ
weigh x = cond (eqb x 0) 0 1

-- 0 counts nothing
weigh_none : (x : ℕ) → x ≡ 0 → weigh x ≡ 0
weigh_none x e = cond-true (eqb x 0) 0 1 (eq-eqb x 0 e)

-- all else counts 1
weigh_some : (x : ℕ) → (x ≡ 0 → ⊥) → weigh x ≡ 1
weigh_some x e = cond-false (eqb x 0) 0 1 (ne_eqb x 0 e)

-- and never more
weigh_le : (x : ℕ) → weigh x ≤ 1
weigh_le x = ⊎_elim (λ (e : x ≡ 0). omega (arith, weigh_none x e)) (λ (e : x ≡ 0 → ⊥). omega (arith, weigh_some x e)) (cases_eq x 0)

-- what is not 0 before counts after
weigh_more : (x y : ℕ) → (y ≡ 0 → x ≡ 0) → weigh x ≤ weigh y
weigh_more x y h =
    ⊎_elim
    (λ (e : x ≡ 0). omega (arith, weigh_none x e))
    (λ (e : x ≡ 0 → ⊥). omega (arith, weigh_le x, weigh_some y (λ i. e (h i))))
    (cases_eq x 0)

unfoldable pub marked : ℕ → (ℕ → ℕ) → ℕ
marked zero f = 0
marked (suc n) f = weigh (f n) + marked n f

-- there are at most n
pub marked_le : (n : ℕ) (f : ℕ → ℕ) → marked n f ≤ n
unfolding marked
marked_le zero f = omega arith
marked_le (suc n) f = omega (arith, marked_le n f, weigh_le (f n))

-- n of them are all
pub marked_full : (n : ℕ) (f : ℕ → ℕ) → n ≤ marked n f → (k : ℕ) → k < n → f k ≡ 0 → ⊥
unfolding marked
marked_full zero f h k l e = omega arith
marked_full (suc n) f h k l e =
    let b = marked_le n f in
    let o = weigh_le (f n) in
    ⊎_elim
    (λ (i : k ≡ n). omega (arith, weigh_none (f n) (subst (λ (j : ℕ). f j ≡ 0) i e)))
    (λ (i : k ≡ n → ⊥). marked_full n f (omega arith) k (omega arith) e)
    (cases_eq k n)

-- none is lost
pub marked_more : (n : ℕ) (f g : ℕ → ℕ) → ((k : ℕ) → k < n → g k ≡ 0 → f k ≡ 0) → marked n f ≤ marked n g
unfolding marked
marked_more zero f g h = omega arith
marked_more (suc n) f g h =
    omega (arith, marked_more n f g (λ k l. h k (omega arith)), weigh_more (f n) (g n) (h n (omega arith)))

-- and one is new
pub marked_new : (n : ℕ) (f g : ℕ → ℕ) → ((k : ℕ) → k < n → g k ≡ 0 → f k ≡ 0) → (k : ℕ) → k < n → f k ≡ 0 → (g k ≡ 0 → ⊥) → marked n f < marked n g
unfolding marked
marked_new zero f g h k l e i = absurd (omega arith)
marked_new (suc n) f g h k l e i =
    ⊎_elim
    (λ (z : k ≡ n).
    omega (arith, weigh_none (f n) (subst (λ (j : ℕ). f j ≡ 0) z e), weigh_some (g n) (λ w. i (subst (λ (j : ℕ). g j ≡ 0) (sym z) w)), marked_more n f g (λ j t. h j (omega arith))))
    (λ (z : k ≡ n → ⊥).
    omega (arith, marked_new n f g (λ j t. h j (omega arith)) k (omega arith) e i, weigh_more (f n) (g n) (h n (omega arith))))
    (cases_eq k n)
