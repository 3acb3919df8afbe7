-- The laws of machines, from those of systems.
use Rattle.std.proofs.Common.{◌≡◌, ℕ, ◌*◌, T, List, [], ◌∷◌, ap, ⊎_elim, mul-zero, zero-mul, arith}
use Rattle.std.proofs.lemmas.Bool.{cases_eq}
use Rattle.lts.specs.Labels.{member}
use Rattle.lts.specs.Systems.{Lts, Conforms}
use Rattle.lts.specs.Operators.{restrict, relabel, parallel}
use Rattle.lts.specs.Machines.{Machine, Sound, Fits, system_of, initial}
use Rattle.lts.specs.Conformance.{MachineConforms, largest}
use Rattle.lts.specs.Layers.{MachineLayer, restriction, relabelling, on_right, on_left, put_over, in_machine_context, by_list, parallel_machine}
use Rattle.lts.specs.Soundness.{by_list_names, parallel_fits, put_over_sound, context_sound}
use Rattle.lts.specs.Laws.{ShowsConformance, TestedConformance, RefusalsAgree, IsLargest, ContextKeeps, StuckOnlyIf}
use Rattle.lts.proofs.Proper.{Proper, proper}
use Rattle.lts.proofs.Readings.{tells_initial}
use Rattle.lts.proofs.Coverings.{covered_weak, refusals_of, refusals_tested, refusals_decided}
use Rattle.lts.proofs.Order.{conforms_refl, conforms_trans, conforms_stuck}
use Rattle.lts.proofs.Keeping.{restrict_keeps, relabel_keeps}
use Rattle.lts.proofs.Sides.{parallel_keeps}
use Rattle.lts.proofs.Largest.{is_largest, systems_conform, machines_conform, largest_meets, decided}
use Rattle.lts.proofs.Claimed.{to_clauses, from_clauses}
use Rattle.lts.proofs.Numbered.{Bisimilar, bisimilar_conforms, bisimilar_back, restricted_alike, relabelled_alike, parallel_alike}

pub refusals_agree : (M N : Machine) → Sound M → Fits M → RefusalsAgree M N
refusals_agree M N s f p q = (
  (λ h. refusals_decided (system_of M) (system_of N) p q (initial M) (tells_initial M (proper M s f)) h),
  (λ h. refusals_tested (system_of M) (system_of N) p q (refusals_of (system_of M) (system_of N) p q (covered_weak (system_of M) (system_of N) p q h))),
)

pub rounds_leave_the_largest : (M N : Machine) → Sound M → Fits M → Sound N → Fits N → IsLargest M N
rounds_leave_the_largest M N s f u g = is_largest M N (proper M s f) (proper N u g)

-- conformance of machines and of their systems
pub shows_conformance : (R : ℕ → ℕ → Type 0) (M N : Machine) → Sound M → Fits M → Sound N → Fits N → ShowsConformance M N R
shows_conformance R M N s f u g m r =
    machines_conform M N (proper M s f) (proper N u g) (record { by = R; meets = from_clauses (system_of M) (system_of N) R m; starts = r })

pub tested_conformance : (M N : Machine) → Sound M → Fits M → Sound N → Fits N → MachineConforms M N → TestedConformance M N
tested_conformance M N s f u g c =
    let k = proper M s f in
    let l = proper N u g in
    record { meets = to_clauses (system_of M) (system_of N) (λ p q. T (largest M N p q)) (largest_meets M N k l); starts = (decided M N k l).1 c }

pub reflexive : (M : Machine) → Sound M → Fits M → MachineConforms M M
reflexive M s f = machines_conform M M (proper M s f) (proper M s f) (conforms_refl (system_of M))

pub transitive : (K M N : Machine) → Sound K → Fits K → Sound M → Fits M → Sound N → Fits N →
    MachineConforms K M → MachineConforms M N → MachineConforms K N
transitive K M N s f u g v h a b =
    let k = proper K s f in
    let m = proper M u g in
    let n = proper N v h in
    machines_conform K N k n
    (conforms_trans (system_of K) (system_of M) (system_of N) (systems_conform K M k m a) (systems_conform M N m n b))

pub conforming_stuck : (M N : Machine) → Sound M → Fits M → Sound N → Fits N → MachineConforms M N → StuckOnlyIf (system_of M) (system_of N)
conforming_stuck M N s f u g c = conforms_stuck (system_of M) (system_of N) (systems_conform M N (proper M s f) (proper N u g) c)

-- what conforms as systems conforms as the machines that behave as they do
carried : (P Q : Lts) (A B : Machine) → Proper A → Proper B → Bisimilar P (system_of A) → Conforms P Q → Bisimilar Q (system_of B) → MachineConforms A B
carried P Q A B a b i c j =
    machines_conform A B a b
    (conforms_trans (system_of A) P (system_of B) (bisimilar_back P (system_of A) i)
    (conforms_trans P Q (system_of B) c (bisimilar_conforms Q (system_of B) j)))

-- both parts of what fits fit
fits_left : (L R : Machine) → Fits (parallel_machine L R) → Fits L
fits_left L R f =
    let e = parallel_fits L R (λ z. omega arith) in
    ⊎_elim (λ (z : L.size ≡ 0). absurd (omega (arith, ap (λ (i : ℕ). i * R.size) z, zero-mul R.size))) (λ (z : L.size ≡ 0 → ⊥). omega arith)
    (cases_eq L.size 0)

fits_right : (L R : Machine) → Fits (parallel_machine L R) → Fits R
fits_right L R f =
    let e = parallel_fits L R (λ z. omega arith) in
    ⊎_elim (λ (z : R.size ≡ 0). absurd (omega (arith, ap (λ (i : ℕ). L.size * i) z, mul-zero L.size))) (λ (z : R.size ≡ 0 → ⊥). omega arith)
    (cases_eq R.size 0)

fits_inside : (x : MachineLayer) (M : Machine) → Fits (put_over x M) → Fits M
fits_inside (restriction names) M f = f
fits_inside (relabelling map ok) M f = f
fits_inside (on_right third ok) M f = fits_left M third f
fits_inside (on_left third ok) M f = fits_right third M f

layer_keeps : (x : MachineLayer) (M N : Machine) → Sound M → Sound N → Fits (put_over x M) → Fits (put_over x N) →
    MachineConforms M N → MachineConforms (put_over x M) (put_over x N)
layer_keeps x M N s u f g c = go x s u f g (systems_conform M N (proper M s (fits_inside x M f)) (proper N u (fits_inside x N g)) c)
  where
    go : (x : MachineLayer) → Sound M → Sound N → Fits (put_over x M) → Fits (put_over x N) → Conforms (system_of M) (system_of N) →
        MachineConforms (put_over x M) (put_over x N)
    go (restriction names) s u f g c =
        carried (restrict (member names) (system_of M)) (restrict (member names) (system_of N)) (put_over (restriction names) M) (put_over (restriction names) N)
        (proper _ (put_over_sound (restriction names) M s) f) (proper _ (put_over_sound (restriction names) N u) g)
        (restricted_alike names M) (restrict_keeps (member names) (system_of M) (system_of N) c) (restricted_alike names N)
    go (relabelling map ok) s u f g c =
        carried (relabel (by_list map) (system_of M)) (relabel (by_list map) (system_of N)) (put_over (relabelling map ok) M) (put_over (relabelling map ok) N)
        (proper _ (put_over_sound (relabelling map ok) M s) f) (proper _ (put_over_sound (relabelling map ok) N u) g)
        (relabelled_alike map M (proper M s f)) (relabel_keeps (by_list map) (by_list_names map ok) (system_of M) (system_of N) c)
        (relabelled_alike map N (proper N u g))
    go (on_right third ok) s u f g c =
        let t = proper third ok (fits_right M third f) in
        carried (parallel (system_of M) (system_of third)) (parallel (system_of N) (system_of third)) (parallel_machine M third) (parallel_machine N third)
        (proper _ (put_over_sound (on_right third ok) M s) f) (proper _ (put_over_sound (on_right third ok) N u) g)
        (parallel_alike M third (proper M s (fits_left M third f)) t f)
        (parallel_keeps (system_of M) (system_of N) (system_of third) (system_of third) c (conforms_refl (system_of third)))
        (parallel_alike N third (proper N u (fits_left N third g)) t g)
    go (on_left third ok) s u f g c =
        let t = proper third ok (fits_left third M f) in
        carried (parallel (system_of third) (system_of M)) (parallel (system_of third) (system_of N)) (parallel_machine third M) (parallel_machine third N)
        (proper _ (put_over_sound (on_left third ok) M s) f) (proper _ (put_over_sound (on_left third ok) N u) g)
        (parallel_alike third M t (proper M s (fits_right third M f)) f)
        (parallel_keeps (system_of third) (system_of third) (system_of M) (system_of N) (conforms_refl (system_of third)) c)
        (parallel_alike third N t (proper N u (fits_right third N g)) g)

pub contexts_keep_conformance : (context : List MachineLayer) (M N : Machine) → Sound M → Sound N → ContextKeeps context M N
contexts_keep_conformance [] M N s u f g c = c
contexts_keep_conformance (x ∷ xs) M N s u f g c =
    let M' = in_machine_context xs M in
    let N' = in_machine_context xs N in
    layer_keeps x M' N' (context_sound xs M s) (context_sound xs N u) f g
    (contexts_keep_conformance xs M N s u (fits_inside x M' f) (fits_inside x N' g) c)
