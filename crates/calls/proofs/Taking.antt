-- Where a call is taken, none of its tests fails; and a call that does what the definitions say goes on the history.
use Rattle.std.proofs.Common.{◌≡◌, ℕ, Bool, true, false, cond, List, [], ◌∷◌, is_err, Ok, Err, Result, sym, refl, ap, ◌∙◌, subst, ⊎_elim, arith}
use Rattle.std.specs.List.{AllByRecursion}
use Rattle.std.proofs.lemmas.Bool.{true≢false, cases_Bool, cond-true, cond-false}
use Rattle.calls.specs.declared.refusal.Refusal.{Refusal}
use Rattle.calls.specs.declared.request.Reply.{Reply}
use Rattle.calls.specs.Contents.{Contents}
use Rattle.calls.specs.Calls.{Call, Test, unless_failed, replied, refuses_call, changed, after}
use Rattle.calls.specs.Histories.{Leaves, refused, taken, GoesOn}

pub passed : {A : Type 0} (f : A → Reply) (x : Result A Refusal) (ts : List Test) →
    is_err (replied f (unless_failed ts Err x)) ≡ false → AllByRecursion (λ t. t.fails ≡ false) ts × (is_err (replied f x) ≡ false)
passed f x [] e = (tt, e)
passed f x (t ∷ ts) e =
    let r = first t.fails e in
    let s = passed f x ts r.1 in
    ((r.0, s.0), s.1)
  where
    first : (b : Bool) → is_err (replied f (cond b (Err t.with_this) (unless_failed ts Err x))) ≡ false →
        (b ≡ false) × (is_err (replied f (unless_failed ts Err x)) ≡ false)
    first true e = absurd (true≢false e)
    first false e = (refl, e)

-- where no test fails, what is left is answered; and where one fails first, its refusal
pub skipped : {A : Type 0} (ts : List Test) → AllByRecursion (λ t. t.fails ≡ false) ts → (f : Refusal → A) (x : A) → unless_failed ts f x ≡ x
skipped [] p f x = refl
skipped (t ∷ ts) p f x = cond-false t.fails (f t.with_this) (unless_failed ts f x) p.0 ∙ skipped ts p.1 f x

-- where a value is answered, no test fails, and it is what was left
pub all_pass : {A : Type 0} (ts : List Test) (x a : A) → Ok a ≡ unless_failed ts Err (Ok x) → AllByRecursion (λ t. t.fails ≡ false) ts × (a ≡ x)
all_pass [] x a e = (tt, cc)
all_pass {A} (t ∷ ts) x a e =
    let r = first t.fails e in
    let s = all_pass ts x a r.1 in
    ((r.0, s.0), s.1)
  where
    first : (b : Bool) → ◌≡◌ {A = Result A Refusal} (Ok a) (cond b (Err t.with_this) (unless_failed ts Err (Ok x))) →
        (b ≡ false) × (◌≡◌ {A = Result A Refusal} (Ok a) (unless_failed ts Err (Ok x)))
    first true e = absurd (let z : ◌≡◌ {A = ℕ} 0 1 = cc in omega arith)
    first false e = (refl, e)

pub stopped : {A B : Type 0} (ts : List Test) (x : A) (e : Refusal) → Err e ≡ unless_failed ts Err (Ok x) → (f : Refusal → B) (y : B) → unless_failed ts f y ≡ f e
stopped [] x e i f y = absurd (let z : ◌≡◌ {A = ℕ} 0 1 = cc in omega arith)
stopped {A} {B} (t ∷ ts) x e i f y = go t.fails i (λ k. stopped ts x e k f y)
  where
    go : (b : Bool) → ◌≡◌ {A = Result A Refusal} (Err e) (cond b (Err t.with_this) (unless_failed ts Err (Ok x))) →
        (◌≡◌ {A = Result A Refusal} (Err e) (unless_failed ts Err (Ok x)) → unless_failed ts f y ≡ f e) →
        cond b (f t.with_this) (unless_failed ts f y) ≡ f e
    go true i later = let k : t.with_this ≡ e = cc in ap f k
    go false i later = later i

pub goes_on : (H : Contents) (c : Call) (K : Contents) → K ≡ after H c → GoesOn H c K
goes_on H c K k past l = ⊎_elim
    (λ (e : refuses_call H c ≡ true). subst (λ (M : Contents). Leaves (c ∷ past) M) (sym (k ∙ cond-true (refuses_call H c) H (changed H c) e)) (refused c l e))
    (λ (e : refuses_call H c ≡ false). subst (λ (M : Contents). Leaves (c ∷ past) M) (sym (k ∙ cond-false (refuses_call H c) H (changed H c) e)) (taken c l e))
    (cases_Bool (refuses_call H c))

-- a call that is refused leaves the house, and one that is taken changes it
pub when_refused : (H : Contents) (c : Call) → refuses_call H c ≡ true → (H ≡ after H c) × GoesOn H c H
when_refused H c e = let k = sym (cond-true (refuses_call H c) H (changed H c) e) in (k, goes_on H c H k)

pub when_taken : (H : Contents) (c : Call) (K : Contents) → refuses_call H c ≡ false → K ≡ changed H c → (K ≡ after H c) × GoesOn H c K
when_taken H c K e f = let k = f ∙ sym (cond-false (refuses_call H c) H (changed H c) e) in (k, goes_on H c K k)

-- an answer that is no refusal, and one that is
pub err_refused : {A : Type 0} (f : A → Reply) (r : Result A Refusal) (e : Refusal) → Err e ≡ r → is_err (replied f r) ≡ true
err_refused {A} f r e i = ap (λ (x : Result A Refusal). is_err (replied f x)) (sym i)

pub ok_taken : {A : Type 0} (f : A → Reply) (r : Result A Refusal) (a : A) → Ok a ≡ r → is_err (replied f r) ≡ false
ok_taken {A} f r a i = ap (λ (x : Result A Refusal). is_err (replied f x)) (sym i)
