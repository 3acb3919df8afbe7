-- Weak steps by rows.
use Rattle.std.proofs.Common.{◌≡◌, ℕ, zero, suc, ◌<◌, ◌≤◌, Bool, true, false, not, ◌&&◌, eqb, ltb, List, [], ◌∷◌, ap, sym, refl, ◌∙◌, subst, ⊎_elim, arith}
use Rattle.std.proofs.lemmas.Bool.{and_parts, and_from, lt-ltb, ltb-true, eq-eqb, eqb-true, cases_Bool, both_ways}
use Rattle.std.specs.List.{list_any, list_all}
use Rattle.std.proofs.lemmas.Bool.Decides.{nat_tests}
use Rattle.lts.specs.Labels.{member}
use Rattle.lts.specs.Machines.{Machine, some_below, each_below, tau_reaches, weak_step}
use Rattle.lts.specs.Some.{same, some_in, some_out}
use Rattle.labels.specs.Sets.{members}
use Rattle.labels.proofs.Listed.{any_member}
use Rattle.dense.proofs.Tests.{some_alike}
use Rattle.dense.specs.declared.row.Row.{Row}
use Rattle.dense.specs.Rows.{in_row}
use Rattle.dense.specs.Copies.{moves_into}
use Rattle.ranks.specs.Steps.{steps_into}

-- a closure that meets the states before a set
pub meets_before : (M : Machine) (l p : ℕ) (X : ℕ → Bool) (closure before : Row) → M.size ≤ 255 →
    ((t : ℕ) → t < 256 → in_row closure t ≡ (ltb t M.size && tau_reaches M p t)) →
    ((t : ℕ) → t < 256 → in_row before t ≡ moves_into M l X t) →
    some_below 256 (λ t. in_row closure t && in_row before t) ≡ steps_into M X l p
unfolding steps_into weak_step moves_into
meets_before M l p X closure before small cl be =
    same (some_below 256 (λ t. in_row closure t && in_row before t)) (steps_into M X l p)
    (λ e.
    let o = some_out 256 (λ t. in_row closure t && in_row before t) e in
    let t = o.0 in
    let x = and_parts (in_row closure t) (in_row before t) o.2 in
    let y = and_parts (ltb t M.size) (tau_reaches M p t) (sym (cl t o.1) ∙ x.0) in
    let u = some_out M.size (λ q. M.move t l q && X q) (sym (be t o.1) ∙ x.1) in
    let v = u.0 in
    let z = and_parts (M.move t l v) (X v) u.2 in
    some_in M.size (λ v. weak_step M p l v && X v) v u.1
    (and_from _ _ (some_in M.size (λ t. tau_reaches M p t && M.move t l v) t (ltb-true t M.size y.0) (and_from _ _ y.1 z.0)) z.1))
    (λ e.
    let o = some_out M.size (λ v. weak_step M p l v && X v) e in
    let v = o.0 in
    let x = and_parts (weak_step M p l v) (X v) o.2 in
    let u = some_out M.size (λ t. tau_reaches M p t && M.move t l v) x.0 in
    let t = u.0 in
    let k = u.1 in
    let y = and_parts (tau_reaches M p t) (M.move t l v) u.2 in
    some_in 256 (λ t. in_row closure t && in_row before t) t (omega arith)
    (and_from _ _ (cl t (omega arith) ∙ and_from _ _ (lt-ltb t M.size k) y.0)
    (be t (omega arith) ∙ some_in M.size (λ q. M.move t l q && X q) v o.1 (and_from _ _ y.1 x.1))))

-- into a set of one
pub steps_single : (M : Machine) (l p s : ℕ) (X : ℕ → Bool) → s < M.size → ((v : ℕ) → v < M.size → X v ≡ eqb s v) → steps_into M X l p ≡ weak_step M p l s
unfolding steps_into
steps_single M l p s X h x =
    same (steps_into M X l p) (weak_step M p l s)
    (λ e.
    let o = some_out M.size (λ v. weak_step M p l v && X v) e in
    let b = and_parts (weak_step M p l o.0) (X o.0) o.2 in
    subst (λ (v : ℕ). weak_step M p l v ≡ true) (sym (eqb-true s o.0 (sym (x o.0 o.1) ∙ b.1))) b.0)
    (λ e. some_in M.size (λ v. weak_step M p l v && X v) s h (and_from _ _ e (x s h ∙ eq-eqb s s refl)))

-- no weak step on a label that is on no move into the state
pub no_step : (M : Machine) (p l s : ℕ) → some_below M.size (λ t. M.move t l s) ≡ false → weak_step M p l s ≡ false
unfolding weak_step
no_step M p l s e = ⊎_elim
    (λ (t : weak_step M p l s ≡ true).
    let o = some_out M.size (λ t. tau_reaches M p t && M.move t l s) t in
    absurd (both_ways (some_below M.size (λ t. M.move t l s)) e (some_in M.size (λ t. M.move t l s) o.0 o.1 (and_parts (tau_reaches M p o.0) (M.move o.0 l s) o.2).1)))
    (λ t. t)
    (cases_Bool (weak_step M p l s))

-- the tests of the members of a set, outside of which all pass
all_any : (f : ℕ → Bool) (xs : List ℕ) → list_all f xs ≡ not (list_any (λ k. not (f k)) xs)
all_any f [] = refl
all_any f (x ∷ xs) = let e = all_any f xs in grind (arith, nat_tests)

each_some : (n : ℕ) (f : ℕ → Bool) → each_below n f ≡ not (some_below n (λ k. not (f k)))
unfolding each_below some_below
each_some zero f = refl
each_some (suc n) f = let e = each_some n f in grind (arith, nat_tests)

pub each_member : (x : ℕ) (f : ℕ → Bool) → ((k : ℕ) → k < 64 → member x k ≡ false → f k ≡ true) → list_all f (members x) ≡ each_below 64 f
each_member x f h =
    all_any f (members x)
    ∙ ap not (any_member x (λ k. not (f k)) ∙ some_alike 64 (λ k. member x k && not (f k)) (λ k. not (f k)) (λ k l. let e = h k l in grind (arith, nat_tests)))
    ∙ sym (each_some 64 f)
