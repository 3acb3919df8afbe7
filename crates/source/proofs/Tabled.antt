-- The moves of a list, as a loop goes over it.
use Rattle.std.proofs.Common.{◌≡◌, ℕ, zero, suc, ◌+◌, ◌<◌, ◌≤◌, Bool, true, not, ◌&&◌, ◌||◌, eqb, ltb, leb, List, [], ◌∷◌, ◌++◌, length, get_or, take, sym, refl, ap, ◌∙◌, subst, ⊎_elim, arith}
use Rattle.std.proofs.lemmas.List.{take_more}
use Rattle.std.proofs.lemmas.Bool.{or_cases, or_left, or_right, and_parts, and_from, and_left, true≢false, eqb-true, eq-eqb, ltb-true, lt-ltb, le-ltb, le-leb, cases_lt}
use Rattle.lts.specs.Machines.{some_below, initial, stable}
use Rattle.source.specs.declared.table.Move.{Move}
use Rattle.lts.specs.Some.{same, some_in, some_out}
use Rattle.source.specs.Tables.{any, is_move, in_range, table_size, table_move, table_machine}
use Rattle.labels.proofs.Bits.{or_false, or_regroup}

-- what is read past the end of a list of moves
abbrev pub blank : Move
blank = record { from = 0; label = 0; to = 0 }

-- a move of p on the label to a state below n
abbrev pub leaves : ℕ → ℕ → ℕ → Move → Bool
leaves n p l v = eqb v.from p && (ltb v.to n && eqb v.label l)

any_push : {X : Type 0} (f : X → Bool) (xs : List X) (x : X) → any f (xs ++ x ∷ []) ≡ (any f xs || f x)
any_push f [] x = or_false (f x)
any_push f (y ∷ xs) x = ap (λ (b : Bool). f y || b) (any_push f xs x) ∙ or_regroup (f y) (any f xs) (f x)

-- one element more
pub any_more : {X : Type 0} (f : X → Bool) (xs : List X) (i : ℕ) (d : X) → i < length xs
    → any f (take (i + 1) xs) ≡ (any f (take i xs) || f (get_or xs i d))
any_more f xs i d h = ap (any f) (take_more xs i d h) ∙ any_push f (take i xs) (get_or xs i d)

-- the element at an index passes
pub any_at : {X : Type 0} (f : X → Bool) (xs : List X) (i : ℕ) (d : X) → i < length xs → f (get_or xs i d) ≡ true → any f xs ≡ true
any_at f [] i d h e = absurd (omega arith)
any_at f (x ∷ xs) zero d h e = or_left (f x) (any f xs) e
any_at f (x ∷ xs) (suc i) d h e = or_right (f x) (any f xs) (any_at f xs i d (omega arith) e)

-- an element that passes, and makes every other test pass that it passes
any_out : {X : Type 0} (f : X → Bool) (xs : List X) → any f xs ≡ true
    → (x : X) × (f x ≡ true) × ((g : X → Bool) → g x ≡ true → any g xs ≡ true)
any_out f [] e = absurd (true≢false (sym e))
any_out f (x ∷ xs) e =
    ⊎_elim
    (λ (t : f x ≡ true). (x, t, λ g u. or_left (g x) (any g xs) u))
    (λ (t : any f xs ≡ true). let r = any_out f xs t in (r.0, r.1, λ g u. or_right (g x) (any g xs) (r.2 g u)))
    (or_cases (f x) (any f xs) e)

some_leaves : (n : ℕ) (vs : List Move) (p l : ℕ) → p < n → l ≤ 64
    → any (leaves n p l) vs ≡ some_below n (λ q. table_move n vs p l q)
some_leaves n vs p l h k =
    same (any (leaves n p l) vs) (some_below n (λ q. table_move n vs p l q))
    (λ e.
    let o = any_out (leaves n p l) vs e in
    let v = o.0 in
    let a = and_parts (eqb v.from p) (ltb v.to n && eqb v.label l) o.1 in
    let b = and_parts (ltb v.to n) (eqb v.label l) a.1 in
    let t = ltb-true v.to n b.0 in
    some_in n (λ q. table_move n vs p l q) v.to t
    (and_from (in_range n p l v.to) (any (is_move p l v.to) vs)
    (and_from (ltb p n) (ltb v.to n && leb l 64) (lt-ltb p n h) (and_from (ltb v.to n) (leb l 64) b.0 (le-leb l 64 k)))
    (o.2 (is_move p l v.to)
    (and_from (eqb v.from p) (eqb v.label l && eqb v.to v.to) a.0
    (and_from (eqb v.label l) (eqb v.to v.to) b.1 (eq-eqb v.to v.to refl))))))
    (λ e.
    let s = some_out n (λ q. table_move n vs p l q) e in
    let o = any_out (is_move p l s.0) vs (and_parts (in_range n p l s.0) (any (is_move p l s.0) vs) s.2).1 in
    let v = o.0 in
    let a = and_parts (eqb v.from p) (eqb v.label l && eqb v.to s.0) o.1 in
    let b = and_parts (eqb v.label l) (eqb v.to s.0) a.1 in
    let t : v.to < n = omega (arith, eqb-true v.to s.0 b.1, s.1) in
    o.2 (leaves n p l)
    (and_from (eqb v.from p) (ltb v.to n && eqb v.label l) a.0
    (and_from (ltb v.to n) (eqb v.label l) (lt-ltb v.to n t) b.0)))

-- n is the number of the table's states
module _ (states start : ℕ) (vs : List Move) (p : ℕ) where
  -- a state has the initials on the moves that leave it
  pub table_initial : (l n : ℕ) → n ≡ table_size states start → p < n → l ≤ 64
      → any (leaves n p l) vs ≡ initial (table_machine states start vs) p l
  unfolding initial
  table_initial l n e h k =
      subst (λ (m : ℕ). p < m → any (leaves m p l) vs ≡ some_below (table_size states start) (λ q. table_move (table_size states start) vs p l q)) (sym e)
      (λ i. some_leaves (table_size states start) vs p l i k) h

  pub table_stable : (n : ℕ) → n ≡ table_size states start
      → stable (table_machine states start vs) p ≡ (ltb p n && not (any (leaves n p 64) vs))
  table_stable n e =
      let M = table_machine states start vs in
      ap (λ (m : ℕ). ltb p m && not (initial M p 64)) (sym e)
      ∙ ⊎_elim
      (λ (h : p < n). ap (λ (b : Bool). ltb p n && not b) (sym (table_initial 64 n e h (omega arith))))
      (λ (h : n ≤ p).
      and_left (ltb p n) (not (initial M p 64)) (le-ltb p n h) ∙ sym (and_left (ltb p n) (not (any (leaves n p 64) vs)) (le-ltb p n h)))
      (cases_lt p n)
