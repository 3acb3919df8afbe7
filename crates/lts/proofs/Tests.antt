-- What the tests of machines say.
use Rattle.std.proofs.Common.{◌≡◌, ℕ, zero, suc, ◌<◌, Bool, true, false, not, ◌&&◌, ◌||◌, T, eqb, ltb, ◌⊎◌, sym, subst, inl, inr, arith, eqb→eq, ltb→lt, lt→ltb}
use native.Mathlib.Decide.{ℕ_discrete}
use lib.Dec.{eqb_refl}
use Rattle.lts.specs.Machines.{some_below, each_below, implies}

-- b is true exactly if P holds
pub record Tells (b : Bool) (P : Type 0) : Type 0 where
  pub to : T b → P
  pub of : P → T b

pub TStable : (b : Bool) → ((T b → ⊥) → ⊥) → T b
TStable true h = tt
TStable false h = h (λ t. t)

pub both : (a b : Bool) → T a → T b → T (a && b)
both true true h k = tt
both true false h k = k
both false b h k = h

pub both_0 : (a b : Bool) → T (a && b) → T a
both_0 true b h = tt
both_0 false b h = h

pub both_1 : (a b : Bool) → T (a && b) → T b
both_1 true b h = h
both_1 false b h = absurd h

pub either : (a b : Bool) → T (a || b) → T a ⊎ T b
either true b h = inl tt
either false b h = inr h

pub or_0 : (a b : Bool) → T a → T (a || b)
or_0 true b h = tt
or_0 false b h = absurd h

pub or_1 : (a b : Bool) → T b → T (a || b)
or_1 true b h = tt
or_1 false b h = h

pub TDec : (b : Bool) → T b ⊎ (T b → ⊥)
TDec true = inl tt
TDec false = inr (λ h. h)

pub tells_self : (b : Bool) → Tells b (T b)
tells_self b = record { to = λ h. h; of = λ h. h }

pub tells_and : {a b : Bool} {P Q : Type 0} → Tells a P → Tells b Q → Tells (a && b) (P × Q)
tells_and {a} {b} s t = record {
  to = λ h. (s.to (both_0 a b h), t.to (both_1 a b h));
  of = λ h. both a b (s.of h.0) (t.of h.1);
}

pub tells_or : {a b : Bool} {P Q : Type 0} → Tells a P → Tells b Q → Tells (a || b) (P ⊎ Q)
tells_or {a} {b} s t = record {
  to = λ h. elim (either a b h) [ inl x ↦ inl (s.to x) | inr y ↦ inr (t.to y) ];
  of = λ h. elim h [ inl x ↦ or_0 a b (s.of x) | inr y ↦ or_1 a b (t.of y) ];
}

pub tells_not : {a : Bool} {P : Type 0} → Tells a P → Tells (not a) (P → ⊥)
tells_not {a} {P} s = record { to = λ h p. go a (s.of p) h; of = λ h. back a (λ t. h (s.to t)) }
  where
    go : (b : Bool) → T b → T (not b) → ⊥
    go true h k = k
    go false h k = h

    back : (b : Bool) → (T b → ⊥) → T (not b)
    back true h = h tt
    back false h = tt

pub tells_implies : {a b : Bool} {P Q : Type 0} → Tells a P → Tells b Q → Tells (implies a b) (P → Q)
tells_implies {a} {b} s t = record {
  to = λ h p. t.to (go a b h (s.of p));
  of = λ h. back a b (λ x. t.of (h (s.to x)));
}
  where
    go : (a b : Bool) → T (implies a b) → T a → T b
    go true b h k = h
    go false b h k = absurd k

    back : (a b : Bool) → (T a → T b) → T (implies a b)
    back true b h = h tt
    back false b h = tt

pub tells_ltb : (m n : ℕ) → Tells (ltb m n) (m < n)
tells_ltb m n = record { to = ltb→lt m n; of = lt→ltb m n }

pub tells_eqb : (m n : ℕ) → Tells (eqb m n) (m ≡ n)
tells_eqb m n = record { to = eqb→eq m n; of = λ e. subst (λ (i : ℕ). T (eqb m i)) e (eqb_refl m) }

pub tells_iff : {b : Bool} {P Q : Type 0} → Tells b P → (P → Q) → (Q → P) → Tells b Q
tells_iff s f g = record { to = λ h. f (s.to h); of = λ q. s.of (g q) }

-- bounded quantifiers
some_to : (n : ℕ) (f : ℕ → Bool) → T (some_below n f) → (k : ℕ) × (k < n) × T (f k)
unfolding some_below
some_to zero f h = absurd h
some_to (suc n) f h = elim (either (f n) (some_below n f) h) [
  | inl x ↦ (n, omega arith, x)
  | inr y ↦ let r = some_to n f y in (r.0, omega arith, r.2)
]

some_of : (n : ℕ) (f : ℕ → Bool) (k : ℕ) → k < n → T (f k) → T (some_below n f)
unfolding some_below
some_of zero f k h t = absurd (omega arith)
some_of (suc n) f k h t = elim (ℕ_discrete k n) [
  | yes e ↦ or_0 (f n) (some_below n f) (subst (λ (i : ℕ). T (f i)) e t)
  | no d ↦ or_1 (f n) (some_below n f) (some_of n f k (omega arith) t)
]

each_to : (n : ℕ) (f : ℕ → Bool) → T (each_below n f) → (k : ℕ) → k < n → T (f k)
unfolding each_below
each_to zero f h k l = absurd (omega arith)
each_to (suc n) f h k l = elim (ℕ_discrete k n) [
  | yes e ↦ subst (λ (i : ℕ). T (f i)) (sym e) (both_0 (f n) (each_below n f) h)
  | no d ↦ each_to n f (both_1 (f n) (each_below n f) h) k (omega arith)
]

each_of : (n : ℕ) (f : ℕ → Bool) → ((k : ℕ) → k < n → T (f k)) → T (each_below n f)
unfolding each_below
each_of zero f h = tt
each_of (suc n) f h = both (f n) (each_below n f) (h n (omega arith)) (each_of n f (λ k l. h k (omega arith)))

pub tells_some : (n : ℕ) (f : ℕ → Bool) (P : ℕ → Type 0) → ((k : ℕ) → k < n → Tells (f k) (P k)) →
    Tells (some_below n f) ((k : ℕ) × (k < n) × P k)
tells_some n f P t = record {
  to = λ h. let r = some_to n f h in (r.0, r.1, (t r.0 r.1).to r.2);
  of = λ h. some_of n f h.0 h.1 ((t h.0 h.1).of h.2);
}

pub tells_each : (n : ℕ) (f : ℕ → Bool) (P : ℕ → Type 0) → ((k : ℕ) → k < n → Tells (f k) (P k)) →
    Tells (each_below n f) ((k : ℕ) → k < n → P k)
tells_each n f P t = record {
  to = λ h k l. (t k l).to (each_to n f h k l);
  of = λ h. each_of n f (λ k l. (t k l).of (h k l));
}
