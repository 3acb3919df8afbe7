-- What is known once nothing is refused.
use Rattle.std.proofs.Common.{◌≡◌, ℕ, ◌≤◌, Bool, true, false, cond, ◌||◌, eqb, ltb, List, length, Ok, Err, Result, sym, ap, ◌∙◌, ⊎_elim, arith}
use Rattle.std.proofs.lemmas.Bool.{cases_Bool, cond-true, cond-false, or_from, or_parts, eqb-false, ne_eqb, ltb-false, le-ltb}
use Rattle.lts.specs.Machines.{Machine, Fits}
use Rattle.source.specs.declared.refusal.Refusal.{Refusal}
use Rattle.source.specs.declared.refusal.Refusal.TheVariants.{TooLarge, TooShort}
use Rattle.ranks.specs.Filled.{total, whole, unless_refused, workspace_after}

-- what is refused is not answered
ok_err : {A E : Type 0} (x : A) (e : E) → Ok x ≡ Err e → ⊥
ok_err x e z = cc

-- one answer
ok_same : {A E : Type 0} (x y : A) → ◌≡◌ {A = Result A E} (Ok x) (Ok y) → x ≡ y
ok_same x y z = cc

module _ (M N : Machine) (room : ℕ) {A : Type 0} (x : A) where
  pub record Accepted (r : A) : Type 0 where
    pub some : Fits M
    pub more : Fits N
    pub enough : total M N ≤ room
    pub value : r ≡ x

  -- from the answer
  pub accepted : (r : A) → Ok r ≡ unless_refused M N room x → Accepted r
  accepted r e =
      ⊎_elim
      (λ (t : (eqb M.size 0 || eqb N.size 0) ≡ true). absurd (ok_err r TooLarge (e ∙ cond-true (eqb M.size 0 || eqb N.size 0) (Err TooLarge) (cond (ltb room (total M N)) (Err TooShort) (Ok x)) t)))
      (λ (t : (eqb M.size 0 || eqb N.size 0) ≡ false).
      let b = or_parts (eqb M.size 0) (eqb N.size 0) t in
      let f = e ∙ cond-false (eqb M.size 0 || eqb N.size 0) (Err TooLarge) (cond (ltb room (total M N)) (Err TooShort) (Ok x)) t in
      ⊎_elim
      (λ (s : ltb room (total M N) ≡ true). absurd (ok_err r TooShort (f ∙ cond-true (ltb room (total M N)) (Err TooShort) (Ok x) s)))
      (λ (s : ltb room (total M N) ≡ false). record {
        some = (let z = eqb-false M.size 0 b.0 in omega arith);
        more = (let z = eqb-false N.size 0 b.1 in omega arith);
        enough = ltb-false room (total M N) s;
        value = ok_same {E = Refusal} r x (f ∙ cond-false (ltb room (total M N)) (Err TooShort) (Ok x) s);
      })
      (cases_Bool (ltb room (total M N))))
      (cases_Bool (eqb M.size 0 || eqb N.size 0))

module _ (M N : Machine) (f : Fits M) (g : Fits N) where
  large_false : (eqb M.size 0 || eqb N.size 0) ≡ false
  large_false = or_from (eqb M.size 0) (eqb N.size 0) (ne_eqb M.size 0 (λ z. omega arith)) (ne_eqb N.size 0 (λ z. omega arith))

  -- and to it
  pub accepts : {A : Type 0} (room : ℕ) (x : A) → total M N ≤ room → unless_refused M N room x ≡ Ok x
  accepts room x h =
      cond-false (eqb M.size 0 || eqb N.size 0) (Err TooLarge) (cond (ltb room (total M N)) (Err TooShort) (Ok x)) large_false
      ∙ cond-false (ltb room (total M N)) (Err TooShort) (Ok x) (le-ltb room (total M N) h)

  -- and the workspace is filled
  pub after_whole : (was : List ℕ) → total M N ≤ length was → workspace_after M N was ≡ whole M N was
  after_whole was h =
      cond-false (eqb M.size 0 || eqb N.size 0) was (cond (ltb (length was) (total M N)) was (whole M N was)) large_false
      ∙ cond-false (ltb (length was) (total M N)) was (whole M N was) (le-ltb (length was) (total M N) h)

-- one refusal
err_same : {A B E : Type 0} (x y : E) → ◌≡◌ {A = Result A E} (Err x) (Err y) → ◌≡◌ {A = Result B E} (Err x) (Err y)
err_same x y z = let e : x ≡ y = cc in ap Err e

-- what is refused does not depend on what would be answered
pub refused_same : (M N : Machine) (room : ℕ) {A B : Type 0} (x : A) (y : B) (r : Refusal) → Err r ≡ unless_refused M N room x → Err r ≡ unless_refused M N room y
refused_same M N room x y r e = go (eqb M.size 0 || eqb N.size 0) (ltb room (total M N)) e
  where
    go : (a b : Bool) → Err r ≡ cond a (Err TooLarge) (cond b (Err TooShort) (Ok x)) → Err r ≡ cond a (Err TooLarge) (cond b (Err TooShort) (Ok y))
    go true b e = err_same r TooLarge e
    go false true e = err_same r TooShort e
    go false false e = absurd (ok_err x r (sym e))
