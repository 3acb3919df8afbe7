-- Each test on machines says what its word means on their systems.
use Rattle.std.proofs.Common.{ℕ, zero, suc, ◌<◌, Bool, not, ◌&&◌, T, ◌⊎◌, ◌↔◌, subst, inl, inr, eqb→eq}
use lib.Dec.{eqb_refl}
use Rattle.lts.specs.Labels.{name_of}
use Rattle.lts.specs.Systems.{Star, stay, step, TauReaches, WeakStep, Stable, Initial, Stuck, Outside}
use Rattle.lts.specs.Machines.{Machine, Sound, Fits, system_of, some_below, implies, reach, tau_reaches, weak_step, initial, stable, stuck, outside, reached_from}
use Rattle.lts.specs.Laws.{ReadingsAgree}
use Rattle.lts.proofs.Proper.{Proper, proper}
use Rattle.lts.proofs.Tests.{Tells, either, or_0, or_1, tells_self, tells_and, tells_or, tells_not, tells_implies, tells_ltb, tells_iff, tells_some, tells_each}
use Rattle.lts.proofs.Chain.{steady}

-- n steps through the numbers below n suffice
module _ (f : ℕ → ℕ → Bool) (n : ℕ) (from_in : (p q : ℕ) → T (f p q) → p < n) (to_in : (p q : ℕ) → T (f p q) → q < n) where
  abbrev Nearer : ℕ → ℕ → ℕ → Type 0
  Nearer k p q = (t : ℕ) × (t < n) × (T (f p t) × T (reach f n k t q))

  tells_nearer : (k p q : ℕ) → Tells (some_below n (λ t. f p t && reach f n k t q)) (Nearer k p q)
  tells_nearer k p q = tells_some n (λ t. f p t && reach f n k t q) (λ t. T (f p t) × T (reach f n k t q))
      (λ t _. tells_and (tells_self (f p t)) (tells_self (reach f n k t q)))

  reach_cases : (k p q : ℕ) → T (reach f n (suc k) p q) → T (reach f n k p q) ⊎ Nearer k p q
  unfolding reach
  reach_cases k p q h = elim (either (reach f n k p q) (some_below n (λ t. f p t && reach f n k t q)) h) [
    | inl a ↦ inl a
    | inr b ↦ inr ((tells_nearer k p q).to b)
  ]

  reach_grows : (k p q : ℕ) → T (reach f n k p q) → T (reach f n (suc k) p q)
  unfolding reach
  reach_grows k p q h = or_0 (reach f n k p q) (some_below n (λ t. f p t && reach f n k t q)) h

  reach_nearer : (k p q : ℕ) → Nearer k p q → T (reach f n (suc k) p q)
  unfolding reach
  reach_nearer k p q h = or_1 (reach f n k p q) (some_below n (λ t. f p t && reach f n k t q)) ((tells_nearer k p q).of h)

  reach_to : (k p q : ℕ) → T (reach f n k p q) → Star (λ a b. T (f a b)) p q
  unfolding reach
  reach_to zero p q h = subst (λ (x : ℕ). Star (λ a b. T (f a b)) p x) (eqb→eq p q h) stay
  reach_to (suc k) p q h = elim (reach_cases k p q h) [
    | inl a ↦ reach_to k p q a
    | inr b ↦ step b.2.0 (reach_to k b.0 q b.2.1)
  ]

  reach_lasts : (q k : ℕ) → ((i : ℕ) → i < n → T (reach f n (suc k) i q) → T (reach f n k i q)) →
      (i : ℕ) → i < n → T (reach f n (suc (suc k)) i q) → T (reach f n (suc k) i q)
  reach_lasts q k h i l w = elim (reach_cases (suc k) i q w) [
    | inl a ↦ a
    | inr b ↦ reach_nearer k i q (b.0, b.1, (b.2.0, h b.0 b.1 b.2.1))
  ]

  reach_self : (k p : ℕ) → T (reach f n k p p)
  unfolding reach
  reach_self zero p = eqb_refl p
  reach_self (suc k) p = reach_grows k p p (reach_self k p)

  reach_of : {p q : ℕ} → Star (λ a b. T (f a b)) p q → T (reach f n n p q)
  reach_of {p} stay = reach_self n p
  reach_of {p} {q} (step {t = t} m d) =
      steady n (λ k i. reach f n k i q) (λ k i. reach_grows k i q) (reach_lasts q) p (from_in p t m)
      (reach_nearer n p q (t, to_in p t m, (m, reach_of d)))

  pub tells_reach : (p q : ℕ) → Tells (reach f n n p q) (Star (λ a b. T (f a b)) p q)
  tells_reach p q = record { to = reach_to n p q; of = λ d. reach_of d }

  pub star_in : {p q : ℕ} → Star (λ a b. T (f a b)) p q → p < n → q < n
  star_in stay l = l
  star_in (step {p = p} {t = t} m d) l = star_in d (to_in p t m)

module _ (M : Machine) (s : Proper M) where
  pub tells_tau_reaches : (p q : ℕ) → Tells (tau_reaches M p q) (TauReaches (system_of M) p q)
  unfolding tau_reaches
  tells_tau_reaches p q = tells_reach (λ a b. M.move a 64 b) M.size (λ a b. s.from_in a 64 b) (λ a b. s.to_in a 64 b) p q

  pub reaches_in : {p q : ℕ} → TauReaches (system_of M) p q → p < M.size → q < M.size
  reaches_in d l = star_in (λ a b. M.move a 64 b) M.size (λ a b. s.from_in a 64 b) (λ a b. s.to_in a 64 b) d l

  pub tells_weak_step : (p l q : ℕ) → Tells (weak_step M p l q) (WeakStep (system_of M) p l q)
  unfolding weak_step
  tells_weak_step p l q = tells_iff
      (tells_some M.size (λ t. tau_reaches M p t && M.move t l q) (λ t. TauReaches (system_of M) p t × T (M.move t l q))
      (λ t _. tells_and (tells_tau_reaches p t) (tells_self (M.move t l q))))
      (λ h. (h.0, h.2.0, h.2.1)) (λ h. (h.0, s.from_in h.0 l q h.2, (h.1, h.2)))

  pub tells_initial : (p l : ℕ) → Tells (initial M p l) (Initial (system_of M) p l)
  unfolding initial
  tells_initial p l = tells_iff
      (tells_some M.size (λ t. M.move p l t) (λ t. T (M.move p l t)) (λ t _. tells_self (M.move p l t)))
      (λ h. (h.0, h.2)) (λ h. (h.0, s.to_in p l h.0 h.1, h.1))

  pub tells_stable : (p : ℕ) → p < M.size → Tells (stable M p) (Stable (system_of M) p)
  tells_stable p i = tells_iff (tells_and (tells_ltb p M.size) (tells_not (tells_initial p 64)))
      (λ h t m. h.1 (t, m)) (λ h. (i, λ m. h m.0 m.1))

  pub tells_stuck : (A : ℕ → Bool) (p : ℕ) → p < M.size → Tells (stuck M A p) (Stuck (system_of M) A p)
  unfolding stuck
  tells_stuck A p i = tells_iff
      (tells_and (tells_stable p i)
      (tells_and (tells_some 64 (initial M p) (Initial (system_of M) p) (λ l _. tells_initial p l))
      (tells_each 64 (λ l. implies (initial M p l) (A (name_of l))) (λ l. Initial (system_of M) p l → T (A (name_of l)))
      (λ l _. tells_implies (tells_initial p l) (tells_self (A (name_of l)))))))
      (λ h. record { stable = h.0; label = h.1.0.0; visible = h.1.0.1; initial = h.1.0.2; within = h.1.1 })
      (λ h. (h.stable, ((h.label, h.visible, h.initial), h.within)))

  pub tells_outside : (A : ℕ → Bool) (p q : ℕ) → Tells (outside M A p q) (Outside (system_of M) A p q)
  unfolding outside
  tells_outside A p q = tells_iff
      (tells_or (tells_self (M.move p 64 q))
      (tells_some 64 (λ l. not (A (name_of l)) && M.move p l q) (λ l. (T (A (name_of l)) → ⊥) × T (M.move p l q))
      (λ l _. tells_and (tells_not (tells_self (A (name_of l)))) (tells_self (M.move p l q)))))
      (λ h. elim h [ inl m ↦ inl m | inr o ↦ inr (o.0, o.1, o.2.0, o.2.1) ])
      (λ h. elim h [ inl m ↦ inl m | inr o ↦ inr (o.0, o.1, (o.2, o.3)) ])

  outside_from : (A : ℕ → Bool) (p q : ℕ) → T (outside M A p q) → p < M.size
  outside_from A p q h = elim ((tells_outside A p q).to h) [ inl m ↦ s.from_in p 64 q m | inr o ↦ s.from_in p o.0 q o.3 ]

  outside_to : (A : ℕ → Bool) (p q : ℕ) → T (outside M A p q) → q < M.size
  outside_to A p q h = elim ((tells_outside A p q).to h) [ inl m ↦ s.to_in p 64 q m | inr o ↦ s.to_in p o.0 q o.3 ]

  tested : (A : ℕ → Bool) {p q : ℕ} → Star (Outside (system_of M) A) p q → Star (λ a b. T (outside M A a b)) p q
  tested A stay = stay
  tested A (step {p = p} {t = t} m d) = step ((tells_outside A p t).of m) (tested A d)

  untested : (A : ℕ → Bool) {p q : ℕ} → Star (λ a b. T (outside M A a b)) p q → Star (Outside (system_of M) A) p q
  untested A stay = stay
  untested A (step {p = p} {t = t} m d) = step ((tells_outside A p t).to m) (untested A d)

  pub outside_in : (A : ℕ → Bool) {p q : ℕ} → Star (Outside (system_of M) A) p q → p < M.size → q < M.size
  outside_in A d l = star_in (outside M A) M.size (outside_from A) (outside_to A) (tested A d) l

  pub tells_reached_from : (A : ℕ → Bool) (p q : ℕ) → p < M.size → Tells (reached_from M A p q) (Star (Outside (system_of M) A) p q)
  unfolding reached_from
  tells_reached_from A p q i = tells_iff
      (tells_and (tells_ltb q M.size) (tells_reach (outside M A) M.size (outside_from A) (outside_to A) p q))
      (λ h. untested A h.1) (λ d. (outside_in A d i, tested A d))

iff : {b : Bool} {P : Type 0} → Tells b P → T b ↔ P
iff t = (t.to, t.of)

pub readings_agree : (M : Machine) → Sound M → Fits M → ReadingsAgree M
readings_agree M s f =
    let k = proper M s f in
    record {
      reaching = λ p q. iff (tells_tau_reaches M k p q);
      stepping = λ p l q. iff (tells_weak_step M k p l q);
      initials = λ p l. iff (tells_initial M k p l);
      stability = λ p i. iff (tells_stable M k p i);
      being_stuck = λ A p i. iff (tells_stuck M k A p i);
      reaching_outside = λ A p q i. iff (tells_reached_from M k A p q i);
    }
