-- Fields that are put together one after another.
use Rattle.std.proofs.Common.{◌≡◌, ℕ, zero, suc, ◌-◌, ◌<◌, ◌≤◌, cond, ltb, List, [], ◌∷◌, ◌++◌, length, take, Some, None, codes, Option, sym, refl, ap, ◌∙◌, append_assoc}
use Rattle.std.proofs.lemmas.Bool.{lt-ltb, le-ltb, cond-true, cond-false}
use Rattle.std.proofs.lemmas.List.{take_all}
use Rattle.table.specs.Write.{parted, written_line}
use Rattle.clauses.specs.declared.counterexample.Counterexample.{Counterexample}
use Rattle.clauses.specs.declared.counterexample.Counterexample.TheVariants.{Move, Rest}
use Rattle.judge.specs.declared.verdict.Answer.TheVariants.{No}
use Rattle.judge.specs.declared.verdict.Verdict.{Verdict}
use Rattle.installer.specs.Figures.{figure}
use Rattle.installer.specs.Lines.{way_field, name_field, label_fields, failing_fields, answer_fields}

-- what was cut short before more came is cut short after it
take_grown : {X : Type 0} (n : ℕ) (xs ys : List X) → take n (take n xs ++ ys) ≡ take n (xs ++ ys)
take_grown zero xs ys = refl
take_grown (suc n) [] ys = refl
take_grown (suc n) (x ∷ xs) ys = ap (λ (zs : List _). x ∷ zs) (take_grown n xs ys)

-- two, three and four parts behind what there is
pub two : {u v : List ℕ} (t x y : List ℕ) → u ≡ take 40 (t ++ x) → v ≡ take 40 (u ++ y) → v ≡ take 40 (t ++ (x ++ y))
two t x y e f = f ∙ ap (λ (z : List ℕ). take 40 (z ++ y)) e ∙ take_grown 40 (t ++ x) y ∙ ap (take 40) (append_assoc t x y)

pub three : {u v w : List ℕ} (t x y z : List ℕ) → u ≡ take 40 (t ++ x) → v ≡ take 40 (u ++ y) → w ≡ take 40 (v ++ z) → w ≡ take 40 (t ++ (x ++ (y ++ z)))
three {u = u} t x y z e f g = two t x (y ++ z) e (two u y z f g)

pub four : {u v w r : List ℕ} (t x y z s : List ℕ) → u ≡ take 40 (t ++ x) → v ≡ take 40 (u ++ y) → w ≡ take 40 (v ++ z) → r ≡ take 40 (w ++ s) →
    r ≡ take 40 (t ++ (x ++ (y ++ (z ++ s))))
four {u = u} t x y z s e f g h = two t x (y ++ (z ++ s)) e (three u y z s f g h)

-- four fields behind a word
pub fields : {t u v w r : List ℕ} (word a b c d : List ℕ) → t ≡ word → u ≡ take 40 (t ++ 44 ∷ a) → v ≡ take 40 (u ++ 44 ∷ b) → w ≡ take 40 (v ++ 44 ∷ c) →
    r ≡ take 40 (w ++ 44 ∷ d) → r ≡ take 40 (word ++ 44 ∷ (a ++ 44 ∷ (b ++ 44 ∷ (c ++ 44 ∷ d))))
fields {t = t} word a b c d i e f g h =
    four t (44 ∷ a) (44 ∷ b) (44 ∷ c) (44 ∷ d) e f g h ∙ ap (λ (z : List ℕ). take 40 (z ++ 44 ∷ (a ++ 44 ∷ (b ++ 44 ∷ (c ++ 44 ∷ d))))) i

-- the line feed behind the fields of a line that has room
pub ended : {t u : List ℕ} (fs : List (List ℕ)) → length (written_line fs) ≤ 40 → t ≡ take 40 (parted 44 fs) → u ≡ take 40 (t ++ 10 ∷ []) → u ≡ written_line fs
ended fs l e f = two [] (parted 44 fs) (10 ∷ []) e f ∙ take_all 40 (written_line fs) l

pub receives : (l : ℕ) (label : Option ℕ) → label ≡ Some l → l < 32 → 63 ∷ 44 ∷ figure l ≡ parted 44 (label_fields label)
receives l label e h =
    sym (ap (λ (o : Option ℕ). parted 44 (label_fields o)) e ∙ ap (λ (z : List ℕ). z ++ 44 ∷ figure (cond (ltb l 32) l (l - 32))) (cond-true (ltb l 32) (codes "?") (codes "!") (lt-ltb l 32 h))
    ∙ ap (λ (n : ℕ). 63 ∷ 44 ∷ figure n) (cond-true (ltb l 32) l (l - 32) (lt-ltb l 32 h)))

pub sends : (l : ℕ) (label : Option ℕ) → label ≡ Some l → 32 ≤ l → 33 ∷ 44 ∷ figure (l - 32) ≡ parted 44 (label_fields label)
sends l label e h =
    sym (ap (λ (o : Option ℕ). parted 44 (label_fields o)) e ∙ ap (λ (z : List ℕ). z ++ 44 ∷ figure (cond (ltb l 32) l (l - 32))) (cond-false (ltb l 32) (codes "?") (codes "!") (le-ltb l 32 h))
    ∙ ap (λ (n : ℕ). 33 ∷ 44 ∷ figure n) (cond-false (ltb l 32) l (l - 32) (le-ltb l 32 h)))

pub neither : (label : Option ℕ) → label ≡ None → 44 ∷ [] ≡ parted 44 (label_fields label)
neither label e = sym (ap (λ (o : Option ℕ). parted 44 (label_fields o)) e)

-- the clause, the label and the state
clause_parted : (k : ℕ) (label : Option ℕ) (xs : List ℕ) → k ∷ 44 ∷ (parted 44 (label_fields label) ++ 44 ∷ xs) ≡ parted 44 ((k ∷ []) ∷ (label_fields label ++ xs ∷ []))
clause_parted k None xs = refl
clause_parted k (Some l) xs = ap (λ (z : List ℕ). k ∷ 44 ∷ z) (append_assoc (way_field l) (44 ∷ name_field l) (44 ∷ xs))

pub moved : (x : Counterexample) (l p : ℕ) → x ≡ Move l p → 49 ∷ 44 ∷ (parted 44 (label_fields (Some l)) ++ 44 ∷ figure p) ≡ parted 44 (failing_fields x)
moved x l p e = clause_parted 49 (Some l) (figure p) ∙ sym (ap (λ (y : Counterexample). parted 44 (failing_fields y)) e)

pub rested : (x : Counterexample) (l : Option ℕ) (p : ℕ) → x ≡ Rest l p → 50 ∷ 44 ∷ (parted 44 (label_fields l) ++ 44 ∷ figure p) ≡ parted 44 (failing_fields x)
rested x l p e = clause_parted 50 l (figure p) ∙ sym (ap (λ (y : Counterexample). parted 44 (failing_fields y)) e)

-- the fields of a no
pub no_parted : (v : Verdict) (round : ℕ) (x : Counterexample) →
    codes "no" ++ 44 ∷ (figure v.states ++ 44 ∷ (figure v.others ++ 44 ∷ (figure round ++ 44 ∷ parted 44 (failing_fields x)))) ≡ parted 44 (answer_fields v (No round x))
no_parted v round (Move l p) = refl
no_parted v round (Rest l p) = refl
