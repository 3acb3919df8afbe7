-- The union of the initials of the states that pass a test.
use Rattle.std.proofs.Common.{◌≡◌, ℕ, zero, suc, ◌+◌, ◌<◌, Bool, true, false, cond, ◌&&◌, ◌||◌, List, [], ◌∷◌, map, Some, None, Option, MatchOption, sym, refl, ap, ◌∙◌, subst, arith}
use Rattle.std.proofs.Math.Bool.{or_assoc}
use Rattle.std.proofs.lemmas.Bool.{cond-true, cond-false}
use Rattle.std.proofs.lemmas.List.{map-id}
use Rattle.std.proofs.lemmas.Iterator.{YieldsList, items_from_drains}
use Rattle.std.specs.Fn.{Called}
use Rattle.std.specs.Iterator.{FoldsItems, ReducesItems, FoldTurn}
use Rattle.std.specs.List.{FoldsTo, list_any, filter_map, cons_option, filter, range_with_len}
use denote.Param.Members.{Mut}
use Rattle.lts.specs.Labels.{member}
use Rattle.lts.specs.Machines.{Machine, some_below, initial}
use Rattle.source.specs.Masks.{initials_mask}
use Rattle.source.proofs.Masks.{initials_member}
use Rattle.labels.proofs.Bits.{and_true, or_false, member_none}
use Rattle.labels.specs.declared.LabelSet.{LabelSet}
use Rattle.clauses.specs.Candidates.{AllInitials}
use Rattle.clauses.proofs.Somes.{some_alike, range_any}

-- whether the set has the label
abbrev has : ℕ → LabelSet → Bool
has l x = member x.0 l

-- the numbers that pass a test, with a set for each
abbrev pub given : (ℕ → Bool) → (ℕ → ℕ) → ℕ → Option LabelSet
given test sets v = cond (test v) (Some (record { 0 = sets v })) None

-- a set in front, if there is one
in_front : (p : LabelSet → Bool) (b : Bool) (x : LabelSet) (xs : List LabelSet) → list_any p (cons_option (cond b (Some x) None) xs) ≡ ((b && p x) || list_any p xs)
in_front p true x xs = refl
in_front p false x xs = refl

-- whether some set passes a test
given_any : (p : LabelSet → Bool) (test : ℕ → Bool) (sets : ℕ → ℕ) (n a : ℕ) →
    list_any p (filter_map (given test sets) (range_with_len a n)) ≡ list_any (λ v. test v && p (record { 0 = sets v })) (range_with_len a n)
given_any p test sets zero a = refl
given_any p test sets (suc n) a =
    in_front p (test a) (record { 0 = sets a }) (filter_map (given test sets) (range_with_len (a + 1) n))
    ∙ ap (λ (b : Bool). (test a && p (record { 0 = sets a })) || b) (given_any p test sets n (a + 1))

-- the same, by the numbers
given_some : (p : LabelSet → Bool) (test : ℕ → Bool) (sets : ℕ → ℕ) (n : ℕ) (all : List LabelSet) → all ≡ filter_map (given test sets) (range_with_len 0 n) →
    list_any p all ≡ some_below n (λ v. test v && p (record { 0 = sets v }))
given_some p test sets n all e =
    ap (list_any p) e ∙ given_any p test sets n 0 ∙ range_any (λ v. test v && p (record { 0 = sets v })) n 0
    ∙ some_alike n (λ v. test (0 + v) && p (record { 0 = sets (0 + v) })) (λ v. test v && p (record { 0 = sets v })) (λ k _. ap (λ v. test v && p (record { 0 = sets v })) (omega arith))

-- whether there is a set at all
given_more : (test : ℕ → Bool) (sets : ℕ → ℕ) (n : ℕ) (all : List LabelSet) → all ≡ filter_map (given test sets) (range_with_len 0 n) → list_any (λ _. true) all ≡ some_below n test
given_more test sets n all e = given_some (λ _. true) test sets n all e ∙ some_alike n (λ v. test v && true) test (λ k _. and_true (test k))

-- whether some set has the label
given_label : (N : Machine) (test : ℕ → Bool) (xs : List LabelSet) → xs ≡ filter_map (given test (initials_mask N)) (range_with_len 0 N.size) → (l : ℕ) → l < 64 →
    list_any (has l) xs ≡ some_below N.size (λ v. test v && initial N v l)
given_label N test xs found l h =
    let sets = initials_mask N in
    given_some (has l) test sets N.size xs found
    ∙ some_alike N.size (λ v. test v && member (sets v) l) (λ v. test v && initial N v l) (λ v _. ap (λ (b : Bool). test v && b) (initials_member N v (sets v) refl l h))

module _ {F : Type 0} (g : Mut F (LabelSet × (LabelSet × Unit {0})) LabelSet) where
  -- each call unites two sets
  abbrev pub Unites : F → Type 0
  Unites f = (a b c : LabelSet) (q : F) → Called g f (a, (b, tt)) c q → (q ≡ f) × ((l : ℕ) → member c.0 l ≡ (member a.0 l || member b.0 l))

  -- a set and those behind it
  folded : (f : F) → Unites f → (xs : List LabelSet) (p : F) (x : LabelSet) (q : F) (y : LabelSet) → p ≡ f → FoldsTo {P = F × LabelSet} (FoldTurn g) (p, x) xs (q, y) → (l : ℕ) → member y.0 l ≡ (member x.0 l || list_any (has l) xs)
  folded f u [] p x q y e t l = ap (λ (w : F × LabelSet). member w.1.0 l) (sym t) ∙ sym (or_false (member x.0 l))
  folded f u (z ∷ zs) p x q y e (j, c, t) l =
      let w = u x z j.1 j.0 (subst (λ (k : F). Called g k (x, (z, tt)) j.1 j.0) e c) in
      folded f u zs j.0 j.1 q y w.0 t l ∙ ap (λ (b : Bool). b || list_any (has l) zs) (w.1 l) ∙ or_assoc (member x.0 l) (member z.0 l) (list_any (has l) zs)

  -- what `reduce` gathers of the initials of the states that pass a test
  pub gathered : {S : Type 0} {steps : S → Option LabelSet → S → Type 0} {s : S} {f : F} {all : List LabelSet} (N : Machine) (test : ℕ → Bool) (r : Option LabelSet) →
      ReducesItems steps g s f r → YieldsList steps (λ x. x) s all → all ≡ filter_map (given test (initials_mask N)) (range_with_len 0 N.size) → Unites f →
      MatchOption r (some_below N.size test ≡ false) (λ y. AllInitials N test y.0)
  gathered N test None (v, d) yields e u = sym (given_more test (initials_mask N) N.size [] (sym (map-id []) ∙ items_from_drains [] (d.0, d.1, λ _. (v, d.2)) yields ∙ e))
  gathered N test (Some y) (x, xs, q, (v, d), turns) yields e u =
      let sets = initials_mask N in
      let found : x ∷ xs ≡ filter_map (given test sets) (range_with_len 0 N.size) = sym (map-id (x ∷ xs)) ∙ items_from_drains (x ∷ xs) (d.0, d.1, λ _. (v, d.2)) yields ∙ e in
      record {
        some = sym (given_more test sets N.size (x ∷ xs) found);
        labels = λ l h. folded _ u xs _ x q y refl turns l ∙ given_label N test (x ∷ xs) found l h;
      }

  -- what `fold` gathers of them from no label on
  pub united : {S : Type 0} {steps : S → Option LabelSet → S → Type 0} {s : S} {f : F} {all : List LabelSet} (N : Machine) (test : ℕ → Bool) (x y : LabelSet) →
      FoldsItems steps g s f x y → YieldsList steps (λ x. x) s all → all ≡ filter_map (given test (initials_mask N)) (range_with_len 0 N.size) → x.0 ≡ 0 → Unites f →
      (l : ℕ) → l < 64 → member y.0 l ≡ some_below N.size (λ v. test v && initial N v l)
  united N test x y (xs, q, (v, d), turns) yields e z u l h =
      let found : xs ≡ filter_map (given test (initials_mask N)) (range_with_len 0 N.size) = sym (map-id xs) ∙ items_from_drains xs (d.0, d.1, λ _. (v, d.2)) yields ∙ e in
      folded _ u xs _ x q y refl turns l ∙ ap (λ (k : ℕ). member k l || list_any (has l) xs) z ∙ ap (λ (b : Bool). b || list_any (has l) xs) (member_none l)
      ∙ given_label N test xs found l h

-- a set that is found where the test passes
pub found_given : (test : ℕ → Bool) (sets : ℕ → ℕ) (v : ℕ) (r : Option LabelSet) → MatchOption r (test v ≡ false) (λ x. (test v ≡ true) × (x.0 ≡ sets v)) → r ≡ given test sets v
found_given test sets v None e = sym (cond-false (test v) (Some (record { 0 = sets v })) None e)
found_given test sets v (Some x) e = ap (λ (k : ℕ). Some (record { 0 = k })) e.1 ∙ sym (cond-true (test v) (Some (record { 0 = sets v })) None e.0)

-- the sets of the numbers that pass, one after another
pub map_given : (test : ℕ → Bool) (sets : ℕ → ℕ) (xs : List ℕ) → map (λ v. record { 0 = sets v }) (filter test xs) ≡ filter_map (given test sets) xs
map_given test sets [] = refl
map_given test sets (x ∷ xs) = at (test x) (map_given test sets xs)
  where
    at : (b : Bool) → map (λ v. record { 0 = sets v }) (filter test xs) ≡ filter_map (given test sets) xs →
        map (λ v. record { 0 = sets v }) (cond b (x ∷ filter test xs) (filter test xs)) ≡ cons_option (cond b (Some (record { 0 = sets x })) None) (filter_map (given test sets) xs)
    at true e = ap (λ (ys : List LabelSet). record { 0 = sets x } ∷ ys) e
    at false e = e
