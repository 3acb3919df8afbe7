use Rattle.std.proofs.Common.{◌≡◌, ℕ, ◌+◌, ◌<◌, ◌≤◌, Bool, true, false, cond, not, ◌&&◌, ◌||◌, eqb, ltb, List, set, sym, ap, ◌∙◌, subst, ⊎_elim, arith, length-set, get_or-set_other, get_or-set_same}
use Rattle.std.proofs.lemmas.Bool.{lt-ltb, ltb-true, and_from, and_parts, not-true, not-false, cases_eq}
use Rattle.std.proofs.lemmas.Bool.Decides.{nat_tests}
use Rattle.lts.specs.Machines.{some_below}
use Rattle.lts.specs.Some.{same, some_in, some_out}
use Rattle.dense.specs.declared.row.Row.{Row}
use Rattle.dense.specs.Rows.{in_row, none}
use Rattle.dense.proofs.Tests.{adds, adds_none, below_next}
use Rattle.clauses.proofs.Reading.{rows_fit}
use Rattle.clauses.proofs.Somes.{none_at}
use Rattle.ranks.specs.Steps.{in_rows, lost}
use Rattle.ranks.proofs.Marking.{mark_same, mark_both}
use Rattle.ranks.proofs.board.Board.mark_rows.Goals as goal
use Rattle.ranks.proofs.board.Board.mark_rows.Goals.{then-not-is_empty, else-not-is_empty}

-- what is struck of a row, among the states
struck_some : (m : ℕ) (r : Row) (f : ℕ → Bool) → m ≤ 255 → ((q : ℕ) → q < 256 → in_row r q ≡ (f q && ltb q m)) → some_below 256 (in_row r) ≡ some_below m f
struck_some m r f small e = same (some_below 256 (in_row r)) (some_below m f)
    (λ t.
    let o = some_out 256 (in_row r) t in
    let b = and_parts (f o.0) (ltb o.0 m) (sym (e o.0 o.1) ∙ o.2) in
    some_in m f o.0 (ltb-true o.0 m b.1) b.0)
    (λ t.
    let o = some_out m f t in
    let k = o.1 in
    some_in 256 (in_row r) o.0 (omega arith) (e o.0 (omega arith) ∙ and_from _ _ o.2 (lt-ltb o.0 m k)))

-- a state below m
inside : (a : Bool) (b m : ℕ) → b < m → (a && ltb b m) ≡ a
inside a b m h = grind (arith, nat_tests)

-- a row more
row_joined : (f : ℕ → ℕ → Bool) (r : ℕ → Bool) (p k a b x : ℕ) → r b ≡ f p b → cond (eqb a p && r b) k (cond (ltb a p && f a b) k x) ≡ cond (ltb a (p + 1) && f a b) k x
row_joined f r p k a b x e = grind (arith, nat_tests)

-- a row without a pair that is lost
row_passed : (f : ℕ → ℕ → Bool) (p a b : ℕ) → f p b ≡ false → (ltb a (p + 1) && f a b) ≡ (ltb a p && f a b)
row_passed f p a b e = grind (arith, nat_tests)

-- a row of which what is lost no longer stands
taken : (s old n : Bool) (p b m : ℕ) → s ≡ (old && not (ltb p p && ((old && not n) && ltb b m))) → s ≡ old
taken s old n p b m e = grind (arith, nat_tests)

row_taken : (s old n r w : Bool) (p b m : ℕ) → s ≡ old → r ≡ ((old && not n) && ltb b m) → w ≡ (s && not r) → w ≡ (old && not (ltb p (p + 1) && ((old && not n) && ltb b m)))
row_taken s old n r w p b m e f g = grind (arith, nat_tests)

row_kept : (s old n : Bool) (p b m : ℕ) → s ≡ old → (b < m → (old && not n) ≡ false) → s ≡ (old && not (ltb p (p + 1) && ((old && not n) && ltb b m)))
row_kept s old n p b m e f = grind (arith, nat_tests)

row_other : (s old n : Bool) (p a b m : ℕ) → (p ≡ a → ⊥) → s ≡ (old && not (ltb a p && ((old && not n) && ltb b m))) → s ≡ (old && not (ltb a (p + 1) && ((old && not n) && ltb b m)))
row_other s old n p a b m d e = e ∙ ap (λ (x : Bool). old && not (x && ((old && not n) && ltb b m))) (sym (below_next p a d))

row_left : (s old n : Bool) (p k q m : ℕ) → p < k → q < m → s ≡ (old && not (ltb p k && ((old && not n) && ltb q m))) → s ≡ (old && n)
row_left s old n p k q m h l e = grind (arith, nat_tests)

pub mark_row-requires : goal.mark_row-requires
mark_row-requires c = let z = c.loop-p.invariant.marked.len in let y = c.requires.room in rows_fit c.loop-p.p c.args.n c.args.m _ c.loop-p-test.true (omega arith)

pub loop-p-preserved : goal.loop-p-preserved
loop-p-preserved c =
    let m = c.args.m in
    let p = c.loop-p.p in
    let k = c.args.round in
    let was = c.args.ranks.now in
    let old = c.args.self.now in
    let f = lost old.stands old.next in
    let r = c.both-struck.result in
    let here : (q : ℕ) → q < 256 → in_rows c.loop-p.self.stands p q ≡ in_rows old.stands p q =
    (λ q h. taken (in_rows c.loop-p.self.stands p q) (in_rows old.stands p q) (in_rows old.next p q) p q m (c.loop-p.invariant.stands p q h)) in
    let cut : (q : ℕ) → q < 256 → in_row r q ≡ (f p q && ltb q m) =
    (λ q h. c.both-struck.ensures q
    ∙ ap (λ (b : Bool). b && in_row c.below-all.result q) (c.without.ensures q h ∙ ap (λ (b : Bool). b && not (in_rows c.loop-p.self.next p q)) (here q h) ∙ ap (λ (x : List Row). in_rows old.stands p q && not (in_rows x p q)) c.loop-p.invariant.next)
    ∙ ap (λ (b : Bool). f p q && b) (c.below-all.ensures q h)) in
    let told = struck_some m r (f p) c.requires.few.1 cut in
    elim c.if-not-is_empty.branch [
      | then-not-is_empty w ↦
          let some : some_below m (f p) ≡ true = sym told ∙ not-false (some_below 256 (in_row r)) (sym w.if-not-is_empty.ensures) in
          let few = c.requires.few.1 in
          rw (w.ranks-is, w.changed-is, w.self-is) (record {
            marked = mark_both m k (λ a b. ltb a p && f a b) (λ a b. eqb a p && in_row r b) (λ a b. ltb a (p + 1) && f a b) was c.loop-p.ranks w.mark_row.new.ranks c.loop-p.invariant.marked w.mark_row.ensures
                (λ a b h x. row_joined f (in_row r) p k a b x (cut b (omega arith) ∙ inside (f p b) b m h));
            changed = λ x h. w.with-changed.ensures x h ∙ ap (λ (b : Bool). b || eqb p x) (c.loop-p.invariant.changed x h) ∙ adds (λ y. some_below m (f y)) p x some;
            next = c.loop-p.invariant.next;
            long = length-set _ _ _ ∙ c.loop-p.invariant.long;
            stands = λ a b h. ⊎_elim
                (λ (z : p ≡ a).
                subst (λ (x : ℕ). in_rows (set c.loop-p.self.stands p w.without-then-not-is_empty.result) x b ≡ (in_rows old.stands x b && not (ltb x (p + 1) && (f x b && ltb b m)))) z
                (ap (λ (x : Row). in_row x b) (get_or-set_same c.loop-p.self.stands p w.without-then-not-is_empty.result none (let l = c.loop-p.invariant.long in let i = c.loop-p-test.true in let n = c.requires.few.0 in omega arith))
                ∙ row_taken (in_rows c.loop-p.self.stands p b) (in_rows old.stands p b) (in_rows old.next p b) (in_row r b) (in_row w.without-then-not-is_empty.result b) p b m (here b h) (cut b h) (w.without-then-not-is_empty.ensures b h)))
                (λ (z : p ≡ a → ⊥).
                ap (λ (x : Row). in_row x b) (get_or-set_other c.loop-p.self.stands p a w.without-then-not-is_empty.result none (λ y. z (sym y)))
                ∙ row_other (in_rows c.loop-p.self.stands a b) (in_rows old.stands a b) (in_rows old.next a b) p a b m z (c.loop-p.invariant.stands a b h))
                (cases_eq p a);
          })
      | else-not-is_empty w ↦
          let none : some_below m (f p) ≡ false = sym told ∙ not-true (some_below 256 (in_row r)) (sym w.if-not-is_empty.ensures) in
          rw (w.ranks-is, w.changed-is, w.self-is) (record {
            marked = mark_same m k was (λ a b. ltb a p && f a b) (λ a b. ltb a (p + 1) && f a b) c.loop-p.ranks c.loop-p.invariant.marked (λ a b h. row_passed f p a b (none_at m (f p) none b h));
            changed = λ x h. c.loop-p.invariant.changed x h ∙ adds_none (λ y. some_below m (f y)) p x none;
            next = c.loop-p.invariant.next;
            long = c.loop-p.invariant.long;
            stands = λ a b h. ⊎_elim
                (λ (z : p ≡ a).
                subst (λ (x : ℕ). in_rows c.loop-p.self.stands x b ≡ (in_rows old.stands x b && not (ltb x (p + 1) && (f x b && ltb b m)))) z
                (row_kept (in_rows c.loop-p.self.stands p b) (in_rows old.stands p b) (in_rows old.next p b) p b m (here b h) (λ l. none_at m (f p) none b l)))
                (λ (z : p ≡ a → ⊥). row_other (in_rows c.loop-p.self.stands a b) (in_rows old.stands a b) (in_rows old.next a b) p a b m z (c.loop-p.invariant.stands a b h))
                (cases_eq p a);
          })
    ]

pub returns : goal.returns
returns c =
    let n = c.args.n in
    let m = c.args.m in
    let old = c.args.self.now in
    let e : c.loop-p.p ≡ n = (let y = c.loop-p-test.false in let x = c.loop-p.auto.p-end in omega arith) in
    record {
      marked = rw e at c.loop-p.invariant.marked;
      stands = λ p q h l. row_left (in_rows c.loop-p.self.stands p q) (in_rows old.stands p q) (in_rows old.next p q) p c.loop-p.p q m (omega arith) l (c.loop-p.invariant.stands p q (let few = c.requires.few.1 in omega arith));
      next = c.loop-p.invariant.next;
      changed = rw e at c.loop-p.invariant.changed;
    }
