-- What the rows of a copy tell.
use Rattle.std.proofs.Common.{◌≡◌, ℕ, ◌<◌, ◌≤◌, Bool, true, false, cond, ◌&&◌, eqb, ltb, leb, List, sym, refl, ap, ◌∙◌, ⊎_elim, arith}
use mathlib.Core.Path.{fun_ext}
use Rattle.std.proofs.lemmas.Bool.{and_parts, and_from, and_left, lt-ltb, le-ltb, ltb-true, leb-true, le-leb, cases_Bool, cond-true, cond-false, ne_eqb, both_ways}
use Rattle.lts.specs.Machines.{Machine, Sound, some_below}
use Rattle.lts.specs.Some.{same, some_in, some_out}
use Rattle.source.specs.declared.extent.Extent.{Extent}
use Rattle.source.specs.Tables.{table_size, in_range}
use Rattle.dense.specs.declared.row.Row.{Row}
use Rattle.dense.specs.Rows.{in_row}
use Rattle.dense.specs.Copies.{row_at, dense_move, dense_machine, moves_into}
use Rattle.dense.proofs.Tests.{some_alike}

-- in range
pub ranged : (n p l q : ℕ) → p < n → l ≤ 64 → q < n → in_range n p l q ≡ true
ranged n p l q a b c = and_from _ _ (lt-ltb p n a) (and_from _ _ (lt-ltb q n c) (le-leb l 64 b))

module _ (n p l : ℕ) (rows : List (List Row)) (a : p < n) (b : l ≤ 64) (m : n ≤ 256) where
  -- a row meets those of a set that are states
  pub row_meets : (X : ℕ → Bool) (inside : Row) → ((q : ℕ) → q < 256 → in_row inside q ≡ (X q && ltb q n)) →
      some_below 256 (λ q. in_row (row_at rows p l) q && in_row inside q) ≡ some_below n (λ q. dense_move n rows p l q && X q)
  row_meets X inside e =
      same (some_below 256 (λ q. in_row (row_at rows p l) q && in_row inside q)) (some_below n (λ q. dense_move n rows p l q && X q))
      (λ t.
      let o = some_out 256 (λ q. in_row (row_at rows p l) q && in_row inside q) t in
      let q = o.0 in
      let x = and_parts (in_row (row_at rows p l) q) (in_row inside q) o.2 in
      let y = and_parts (X q) (ltb q n) (sym (e q o.1) ∙ x.1) in
      let k = ltb-true q n y.1 in
      some_in n (λ q. dense_move n rows p l q && X q) q k (and_from _ _ (and_from _ _ (ranged n p l q a b k) x.0) y.0))
      (λ t.
      let o = some_out n (λ q. dense_move n rows p l q && X q) t in
      let q = o.0 in
      let k = o.1 in
      let x = and_parts (dense_move n rows p l q) (X q) o.2 in
      let y = and_parts (in_range n p l q) (in_row (row_at rows p l) q) x.0 in
      some_in 256 (λ q. in_row (row_at rows p l) q && in_row inside q) q (omega arith)
      (and_from _ _ y.1 (e q (omega arith) ∙ and_from _ _ x.1 (lt-ltb q n k))))

  -- a row that holds a state at all
  pub row_some : (all : Row) → ((q : ℕ) → q < 256 → in_row all q ≡ ltb q n) →
      some_below 256 (λ q. in_row (row_at rows p l) q && in_row all q) ≡ some_below n (dense_move n rows p l)
  row_some all e =
      row_meets (λ _. true) all e
      ∙ some_alike n (λ q. dense_move n rows p l q && true) (dense_move n rows p l) (λ q _. and_true (dense_move n rows p l q))
    where
      and_true : (x : Bool) → (x && true) ≡ x
      and_true true = refl
      and_true false = refl

-- only a state moves, and on a label
pub moves_within : (M : Machine) (l : ℕ) (X : ℕ → Bool) (p : ℕ) → Sound M → moves_into M l X p ≡ true → (p < M.size) × (l ≤ 64)
unfolding moves_into
moves_within M l X p s t =
    let o = some_out M.size (λ q. M.move p l q && X q) t in
    let w = s.within p l o.0 (and_parts (M.move p l o.0) (X o.0) o.2).0 in
    (w.from, w.label)

-- two machines that agree
pub same_machine : (M N : Machine) → M.size ≡ N.size → M.start ≡ N.start → ((p l q : ℕ) → M.move p l q ≡ N.move p l q) → M ≡ N
same_machine M N a b c =
    let f : M.move ≡ N.move = fun_ext (λ p. fun_ext (λ l. fun_ext (λ q. c p l q))) in
    ap (λ (x : ℕ). record { size = x; start = M.start; move = M.move }) a
    ∙ ap (λ (x : ℕ). record { size = N.size; start = x; move = M.move }) b
    ∙ ap (λ (x : ℕ → ℕ → ℕ → Bool). record { size = N.size; start = N.start; move = x }) f

-- rows that were asked of a machine copy it
module _ (M : Machine) (n s : ℕ) (rows : List (List Row)) (sound : Sound M) (en : n ≡ M.size) (es : s ≡ M.start) where
  size_is : 1 ≤ n → table_size n s ≡ n
  size_is h =
      let a = sound.small in
      let b = sound.begins in
      cond-true (ltb s n && leb n 255) n 0 (and_from _ _ (lt-ltb s n (omega arith)) (le-leb n 255 (omega arith)))

  move_is : ((p l q : ℕ) → p < n → l ≤ 64 → q < 256 → in_row (row_at rows p l) q ≡ M.move p l q) → (p l q : ℕ) → dense_move n rows p l q ≡ M.move p l q
  move_is asked p l q = ⊎_elim
      (λ (t : in_range n p l q ≡ true).
      let x = and_parts (ltb p n) (ltb q n && leb l 64) t in
      let y = and_parts (ltb q n) (leb l 64) x.1 in
      let a = ltb-true p n x.0 in
      let b = leb-true l 64 y.1 in
      let c = ltb-true q n y.0 in
      let z = sound.small in
      ap (λ (v : Bool). v && in_row (row_at rows p l) q) t ∙ asked p l q a b (omega arith))
      (λ (t : in_range n p l q ≡ false).
      and_left (in_range n p l q) (in_row (row_at rows p l) q) t
      ∙ sym (⊎_elim
      (λ (e : M.move p l q ≡ true).
      let w = sound.within p l q e in
      let a = w.from in
      let c = w.to in
      absurd (both_ways (in_range n p l q) t (ranged n p l q (omega arith) w.label (omega arith))))
      (λ e. e)
      (cases_Bool (M.move p l q))))
      (cases_Bool (in_range n p l q))

  pub copy_is : 1 ≤ n → ((p l q : ℕ) → p < n → l ≤ 64 → q < 256 → in_row (row_at rows p l) q ≡ M.move p l q) → dense_machine n s rows ≡ M
  copy_is h asked =
      let e = size_is h in
      same_machine (dense_machine n s rows) M (e ∙ en)
      (ap (λ (x : ℕ). cond (eqb x 0) 0 s) e ∙ cond-false (eqb n 0) 0 s (ne_eqb n 0 (λ z. omega arith)) ∙ es)
      (λ p l q. ap (λ (x : ℕ). dense_move x rows p l q) e ∙ move_is asked p l q)

-- a machine that is too large has no states, starts at 0 and does not move
pub none_copied : (M : Machine) (e : Extent) (rows : List (List Row)) → (e.states ≡ 0) × (e.start ≡ 0) → Sound M → M.size ≡ 0 → dense_machine e.states e.start rows ≡ M
none_copied M e rows none sound z =
    let b = sound.begins in
    ap (λ (n : ℕ). dense_machine n e.start rows) none.0 ∙ ap (λ (s : ℕ). dense_machine 0 s rows) none.1
    ∙ same_machine (dense_machine 0 0 rows) M (sym z) (omega arith)
    (λ p l q. and_left (in_range 0 p l q) (in_row (row_at rows p l) q) (and_left (ltb p 0) _ (le-ltb p 0 (omega arith)))
    ∙ sym (⊎_elim
    (λ (e : M.move p l q ≡ true). let w = (sound.within p l q e).from in absurd (omega arith))
    (λ e. e)
    (cases_Bool (M.move p l q))))
