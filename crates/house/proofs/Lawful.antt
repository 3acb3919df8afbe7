-- Seats whose piles were judged to conform keep the promise.
use Rattle.std.proofs.Common.{◌≡◌, ℕ, zero, suc, ◌*◌, ◌≤◌, true, not, ◌&&◌, eqb, ltb, List, [], ◌∷◌, length, Some, None, Option, refl, subst, ⊎_elim, mul-zero, zero-mul, arith}
use Rattle.std.proofs.lemmas.Bool.{and_parts, not-true, eqb-false, true≢false, cases_eq}
use Rattle.std.specs.List.{All}
use Rattle.std.proofs.lemmas.List.Elements.{All-head, All-tail}
use Rattle.lts.specs.Labels.{member}
use Rattle.lts.specs.Systems.{Lts, Conforms}
use Rattle.lts.specs.Operators.{restrict, parallel}
use Rattle.lts.specs.Machines.{Machine, Sound, Fits, system_of}
use Rattle.lts.specs.Layers.{parallel_machine}
use Rattle.lts.specs.Soundness.{restrict_sound, parallel_sound, parallel_fits}
use Rattle.lts.specs.Contexts.{row}
use Rattle.lts.proofs.Proper.{proper}
use Rattle.lts.proofs.Order.{conforms_refl, conforms_trans, conforms_stuck}
use Rattle.lts.proofs.Keeping.{restrict_keeps}
use Rattle.lts.proofs.Sides.{parallel_keeps}
use Rattle.lts.proofs.Largest.{systems_conform}
use Rattle.lts.proofs.Numbered.{bisimilar_conforms, restricted_alike, parallel_alike}
use Rattle.source.specs.Sounds.{table_sound}
use Rattle.table.specs.Table.{Listing}
use Rattle.judge.specs.declared.verdict.Answer.{Answer}
use Rattle.judge.specs.declared.verdict.Answer.TheVariants.{Yes, No}
use Rattle.judge.specs.Verdicts.{answer}
use Rattle.judge.proofs.Promised.{largest_relation}
use Rattle.calls.specs.declared.seat.Pile.{Pile}
use Rattle.calls.specs.declared.seat.Seat.{Seat}
use Rattle.calls.specs.declared.seat.Seat.TheVariants.{Empty, Contract, Fitted}
use Rattle.house.specs.declared.house.House.{House}
use Rattle.calls.specs.Contents.{table_at, machine_at, helped, pile_machine}
use Rattle.calls.specs.Promises.{table_system, helped_system, pile_system, as_contracts, as_fitted, StuckOnlyWhereContractsCan}
use Rattle.house.specs.Stored.{is_yes, judged_yes, helper_in, seat_in}
use Rattle.house.specs.Means.{means}

pub machine_sound : (ts : List Listing) (c : ℕ) → Sound (machine_at ts c)
machine_sound ts c = let t = table_at ts c in table_sound t.states t.start t.moves

helped_sound : (ts : List Listing) (m : ℕ) (h : Option ℕ) → Sound (helped ts m h)
helped_sound ts m None = machine_sound ts m
helped_sound ts m (Some h) = parallel_sound (machine_at ts m) (machine_at ts h) (machine_sound ts m) (machine_sound ts h)

pub pile_sound : (ts : List Listing) (p : Pile) → Sound (pile_machine ts p)
pile_sound ts p = restrict_sound p.hidden.0 (helped ts p.table p.helper) (helped_sound ts p.table p.helper)

factors : (a b : ℕ) → 1 ≤ a * b → (1 ≤ a) × (1 ≤ b)
factors zero b h = absurd (omega (arith, zero-mul b))
factors (suc a) zero h = absurd (omega (arith, mul-zero (suc a)))
factors (suc a) (suc b) h = (omega arith, omega arith)

-- both parts of what fits fit
both_fit : (L R : Machine) → Fits (parallel_machine L R) → Fits L × Fits R
both_fit L R f = factors L.size R.size (subst (λ (n : ℕ). 1 ≤ n) (parallel_fits L R (λ z. omega arith)) f)

-- a table beside its helper behaves as the machine of pairs that was judged
helped_conforms : (ts : List Listing) (m : ℕ) (h : Option ℕ) → Fits (helped ts m h) → Conforms (helped_system ts m h) (system_of (helped ts m h))
helped_conforms ts m None f = conforms_refl (table_system ts m)
helped_conforms ts m (Some h) f =
    let L = machine_at ts m in
    let R = machine_at ts h in
    bisimilar_conforms (parallel (system_of L) (system_of R)) (system_of (parallel_machine L R))
    (parallel_alike L R (proper L (machine_sound ts m) (both_fit L R f).0) (proper R (machine_sound ts h) (both_fit L R f).1) f)

is_yes_true : (a : Answer) → is_yes a ≡ true → a ≡ Yes
is_yes_true Yes e = refl
is_yes_true (No round c) e = absurd (true≢false (cc))

some_states : (n : ℕ) → not (eqb n 0) ≡ true → 1 ≤ n
some_states n e = let z = eqb-false n 0 (not-true (eqb n 0) e) in ⊎_elim (λ (i : n ≡ 0). absurd (z i)) (λ (i : n ≡ 0 → ⊥). omega arith) (cases_eq n 0)

-- a pile that was judged to conform conforms as a system
pile_conforms : (ts : List Listing) (c : ℕ) (p : Pile) → judged_yes (pile_machine ts p) (machine_at ts c) ≡ true →
    Conforms (pile_system ts p) (table_system ts c)
pile_conforms ts c p e =
    let P = pile_machine ts p in
    let Q = machine_at ts c in
    let a = and_parts (not (eqb P.size 0)) (not (eqb Q.size 0) && is_yes (answer P Q)) e in
    let b = and_parts (not (eqb Q.size 0)) (is_yes (answer P Q)) a.1 in
    let f : Fits P = some_states P.size a.0 in
    let g : Fits Q = some_states Q.size b.0 in
    let s = pile_sound ts p in
    let u = machine_sound ts c in
    let M = helped ts p.table p.helper in
    let yes_means = (largest_relation P Q s u f g (λ _ _. Unit {0})).conforming.0 in
    conforms_trans (pile_system ts p) (system_of P) (table_system ts c)
    (conforms_trans (pile_system ts p) (restrict (member p.hidden.0) (system_of M)) (system_of P)
    (restrict_keeps (member p.hidden.0) (helped_system ts p.table p.helper) (system_of M) (helped_conforms ts p.table p.helper f))
    (bisimilar_conforms (restrict (member p.hidden.0) (system_of M)) (system_of P) (restricted_alike p.hidden.0 M)))
    (systems_conform P Q (proper P s f) (proper Q u g) (yes_means (is_yes_true (answer P Q) b.1)))

-- seat by seat
row_conforms : (ts : List Listing) (ss : List Seat) → All (λ x. seat_in ts x ≡ true) ss → (E F : Lts) → Conforms E F →
    Conforms (row E (as_fitted ts ss)) (row F (as_contracts ts ss))
row_conforms ts [] h E F c = c
row_conforms ts (Empty ∷ ss) h E F c = row_conforms ts ss (All-tail (λ x. seat_in ts x ≡ true) Empty ss h) E F c
row_conforms ts (Contract k ∷ ss) h E F c =
    row_conforms ts ss (All-tail (λ x. seat_in ts x ≡ true) (Contract k) ss h) (parallel E (table_system ts k)) (parallel F (table_system ts k))
    (parallel_keeps E F (table_system ts k) (table_system ts k) c (conforms_refl (table_system ts k)))
row_conforms ts (Fitted k p ∷ ss) h E F c =
    let n = length ts in
    let y = judged_yes (pile_machine ts p) (machine_at ts k) in
    let a = All-head (λ x. seat_in ts x ≡ true) (Fitted k p) ss h in
    let b = (and_parts (ltb k n) (ltb p.table n && (helper_in n p.helper && y)) a).1 in
    let d = (and_parts (ltb p.table n) (helper_in n p.helper && y) b).1 in
    row_conforms ts ss (All-tail (λ x. seat_in ts x ≡ true) (Fitted k p) ss h) (parallel E (pile_system ts p)) (parallel F (table_system ts k))
    (parallel_keeps E F (pile_system ts p) (table_system ts k) c (pile_conforms ts k p (and_parts (helper_in n p.helper) y d).1))

pub house_keeps : (E : Lts) (h : House) → StuckOnlyWhereContractsCan E (means h)
house_keeps E h A =
    conforms_stuck (row E (as_fitted (means h).tables h.seats)) (row E (as_contracts (means h).tables h.seats))
    (row_conforms (means h).tables h.seats h.within.1 E E (conforms_refl E)) A
