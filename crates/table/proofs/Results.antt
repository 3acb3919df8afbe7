use Rattle.std.proofs.Common.{◌≡◌, ◌⊎◌, Some, None, Ok, Err, Option, Result, sym, refl, ap, inl, inr}
use Rattle.table.specs.declared.fault.Fault.{Fault}
use Rattle.std.specs.Option.{ok_or}
use Rattle.table.specs.Table.{and_then}

-- a refusal is no reading
pub no_err : {A B : Type 0} (f : Fault) (a : A) → ◌≡◌ {A = Result A Fault} (Err f) (Ok a) → B
no_err f a h = absurd (cc)

-- the same the other way round
pub no_ok : {A B : Type 0} (f : Fault) (a : A) → ◌≡◌ {A = Result A Fault} (Ok a) (Err f) → B
no_ok f a h = no_err f a (sym h)

-- equal refusals have one fault
pub same_fault : {A : Type 0} (e f : Fault) → ◌≡◌ {A = Result A Fault} (Err e) (Err f) → e ≡ f
same_fault e f h = cc

-- a reading in steps succeeded in each step
pub then_ok : {A B : Type 0} (r : Result A Fault) (g : A → Result B Fault) (b : B) → and_then r g ≡ Ok b → (a : A) × (r ≡ Ok a) × (g a ≡ Ok b)
then_ok (Ok a) g b h = (a, refl, h)
then_ok (Err e) g b h = no_err e b h

-- a reading in steps failed in its first step or after it
pub then_err : {A B : Type 0} (r : Result A Fault) (g : A → Result B Fault) (f : Fault) → and_then r g ≡ Err f → (r ≡ Err f) ⊎ ((a : A) × (r ≡ Ok a) × (g a ≡ Err f))
then_err (Ok a) g f h = inr (a, refl, h)
then_err {B = B} (Err e) g f h = inl (ap Err (same_fault {A = B} e f h))

-- a last step that always succeeds did not fail
pub fault_is : {A B : Type 0} (g : A → B) (r : Result A Fault) (f : Fault) → and_then {B = B} r (λ x. Ok (g x)) ≡ Err f → r ≡ Err f
fault_is g (Ok x) f h = no_ok f (g x) h
fault_is {B = B} g (Err e) f h = ap Err (same_fault {A = B} e f h)

-- what was read was there
pub ok_or_ok : {A : Type 0} (o : Option A) (f : Fault) (a : A) → ok_or o f ≡ Ok a → o ≡ Some a
ok_or_ok (Some x) f a h = let e : x ≡ a = cc in ap Some e
ok_or_ok None f a h = no_err f a h

-- what was not there is refused with the fault given
pub ok_or_err : {A : Type 0} (o : Option A) (e f : Fault) → ok_or o e ≡ Err f → f ≡ e
ok_or_err (Some x) e f h = no_ok f x h
ok_or_err {A} None e f h = sym (same_fault {A = A} e f h)

-- what cannot be read, and is refused in one way only, is refused in that way
pub refused_as : {A : Type 0} (r : Result A Fault) (f : Fault) → ((a : A) → r ≡ Ok a → ⊥) → ((g : Fault) → r ≡ Err g → g ≡ f) → r ≡ Err f
refused_as (Ok a) f never only = absurd (never a refl)
refused_as (Err g) f never only = ap Err (only g refl)
