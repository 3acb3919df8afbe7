-- parallel keeps conformance, in both places at once.
use Rattle.std.proofs.Common.{◌≡◌, ℕ, ◌<◌, ◌⊎◌, sym, refl, subst, inl, inr, arith}
use native.Mathlib.Decide.{dec_lt}
use Rattle.lts.proofs.Order.{reaches_trans, after_tau_meets, after_tau_later}
use Rattle.lts.specs.Claims.{AfterTau, SideBySide}
use Rattle.lts.specs.Labels.{complement}
use Rattle.lts.specs.Operators.{Joint, left, parallel, right, sync}
use Rattle.lts.specs.Systems.{Conforms, Initial, Lts, Meets, ReadyOn, ReadyRefusal, Refuses, TauReaches, WeakStep, stay, step}

complement_twice : (l : ℕ) → l < 64 → complement (complement l) ≡ l
complement_twice l v = omega arith

module _ (L R : Lts) where
  reaches_left : {p q : L.state} (r : R.state) → TauReaches L p q →
      TauReaches (parallel L R) (record { a = p; b = r }) (record { a = q; b = r })
  reaches_left r stay = stay
  reaches_left r (step m d) = step (left m refl) (reaches_left r d)

  reaches_right : {p q : R.state} (l : L.state) → TauReaches R p q →
      TauReaches (parallel L R) (record { a = l; b = p }) (record { a = l; b = q })
  reaches_right r stay = stay
  reaches_right r (step m d) = step (right m refl) (reaches_right r d)

  reaches_both : {p p' : L.state} {r r' : R.state} → TauReaches L p p' → TauReaches R r r' →
      TauReaches (parallel L R) (record { a = p; b = r }) (record { a = p'; b = r' })
  reaches_both {p'} {r} d e = reaches_trans (parallel L R) (reaches_left r d) (reaches_right p' e)

module _ (P Q S U : Lts) (R : P.state → Q.state → Type 0) (V : S.state → U.state → Type 0)
    (c : Meets P Q (AfterTau P Q R)) (d : Meets S U (AfterTau S U V)) where
  abbrev Pair : (parallel P S).state → (parallel Q U).state → Type 0
  Pair s t = SideBySide P Q S U R V s t

  follow_one : (s s1 : (parallel P S).state) (t : (parallel Q U).state) → Pair s t → Joint P S s s1 64 →
      (t1 : (parallel Q U).state) × TauReaches (parallel Q U) t t1 × Pair s1 t1
  follow_one s s1 t r (left m e) =
      (t, stay, (after_tau_later P Q R s.a s1.a t.a r.0 m, subst (λ (x : S.state). AfterTau S U V x t.b) e r.1))
  follow_one s s1 t r (right m e) =
      (t, stay, (subst (λ (x : P.state). AfterTau P Q R x t.a) e r.0, after_tau_later S U V s.b s1.b t.b r.1 m))
  follow_one s s1 t r (sync e k v m n) =
      let y = c.moves s.a t.a r.0 k v s1.a (s.a, stay, m) in
      let z = d.moves s.b t.b r.1 (complement k) (omega arith) s1.b (s.b, stay, n) in (
        record { a = y.0; b = z.0 },
        reaches_trans (parallel Q U) (reaches_both Q U y.1.1 z.1.1) (step (sync refl k v y.1.2 z.1.2) stay),
        (y.2, z.2),
      )

  follow : {s s' : (parallel P S).state} → TauReaches (parallel P S) s s' → (t : (parallel Q U).state) → Pair s t →
      (t' : (parallel Q U).state) × TauReaches (parallel Q U) t t' × Pair s' t'
  follow stay t r = (t, stay, r)
  follow (step {p = s} {t = s1} m g) t r =
      let y = follow_one s s1 t r m in
      let z = follow g y.0 y.2 in
      (z.0, reaches_trans (parallel Q U) y.1 z.1, z.2)

  step_one : (s s1 : (parallel P S).state) (t : (parallel Q U).state) (l : ℕ) → l < 64 → Pair s t → Joint P S s s1 l →
      (t1 : (parallel Q U).state) × WeakStep (parallel Q U) t l t1 × Pair s1 t1
  step_one s s1 t l v r (left m e) =
      let y = c.moves s.a t.a r.0 l v s1.a (s.a, stay, m) in (
        record { a = y.0; b = t.b },
        (record { a = y.1.0; b = t.b }, reaches_left Q U t.b y.1.1, left y.1.2 refl),
        (y.2, subst (λ (x : S.state). AfterTau S U V x t.b) e r.1),
      )
  step_one s s1 t l v r (right m e) =
      let y = d.moves s.b t.b r.1 l v s1.b (s.b, stay, m) in (
        record { a = t.a; b = y.0 },
        (record { a = t.a; b = y.1.0 }, reaches_right Q U t.a y.1.1, right y.1.2 refl),
        (subst (λ (x : P.state). AfterTau P Q R x t.a) e r.0, y.2),
      )
  step_one s s1 t l v r (sync e k w m n) = absurd (omega arith)

  -- the label that each part is held to
  record Split (s : (parallel P S).state) (y : ℕ) : Type 0 where
    at_left : ℕ
    at_right : ℕ
    here_left : ReadyOn P s.a at_left
    here_right : ReadyOn S s.b at_right
    back : (t : (parallel Q U).state) → ReadyOn Q t.a at_left → ReadyOn U t.b at_right → ReadyOn (parallel Q U) t y

  split : (s : (parallel P S).state) (y : ℕ) → ReadyOn (parallel P S) s y → Split s y
  split s y h = go (dec_lt y 64)
    where
      ready : (v : y < 64) → (s1 : (parallel P S).state) → Joint P S s s1 y → Split s y
      ready v s1 (left m e) = record {
        at_left = y;
        at_right = 64;
        here_left = λ _. (s1.a, m);
        here_right = λ w. absurd (omega arith);
        back = λ t a b w. (record { a = (a w).0; b = t.b }, left (a w).1 refl);
      }
      ready v s1 (right m e) = record {
        at_left = 64;
        at_right = y;
        here_left = λ w. absurd (omega arith);
        here_right = λ _. (s1.b, m);
        back = λ t a b w. (record { a = t.a; b = (b w).0 }, right (b w).1 refl);
      }
      ready v s1 (sync e k w m n) = absurd (omega arith)

      go : Dec (y < 64) → Split s y
      go (yes v) = ready v (h v).0 (h v).1
      go (no n) = record {
        at_left = 64;
        at_right = 64;
        here_left = λ w. absurd (omega arith);
        here_right = λ w. absurd (omega arith);
        back = λ t a b w. absurd (n w);
      }

  refuses_here : (s : (parallel P S).state) (t : (parallel Q U).state) → Pair s t → (X : ℕ → Type 0) (y : ℕ) →
      Refuses (parallel P S) s X → ReadyOn (parallel P S) s y → ReadyRefusal (parallel Q U) t X y
  refuses_here s t r X y f h =
      let w : Split s y = split s y h in
      let X₁ : ℕ → Type 0 = λ l. X l ⊎ Initial S s.b l in
      let u : ReadyRefusal Q t.a X₁ w.at_left = c.refusals s.a t.a r.0 X₁ w.at_left (record {
        place = s.a;
        reaches = stay;
        refuses = record {
          stable = λ p m. f.stable (record { a = p; b = s.b }) (left m refl);
          none = λ l v m x. elim x [
            | inl x₀ ↦ f.none l v (record { a = m.0; b = s.b }, left m.1 refl) x₀
            | inr n ↦ f.stable (record { a = m.0; b = n.0 }) (sync refl l v m.1 n.1)
          ];
        };
        ready = w.here_left;
      }) in
      let X₂ : ℕ → Type 0 = λ l. X l ⊎ Initial Q u.place l in
      let z : ReadyRefusal U t.b X₂ w.at_right = d.refusals s.b t.b r.1 X₂ w.at_right (record {
        place = s.b;
        reaches = stay;
        refuses = record {
          stable = λ p m. f.stable (record { a = s.a; b = p }) (right m refl);
          none = λ l v m x. elim x [
            | inl x₀ ↦ f.none l v (record { a = s.a; b = m.0 }, right m.1 refl) x₀
            | inr n ↦ u.refuses.none (complement l) (omega arith) n (inr (subst (λ (i : ℕ). Initial S s.b i) (sym (complement_twice l v)) m))
          ];
        };
        ready = w.here_right;
      }) in
      let e : (parallel Q U).state = record { a = u.place; b = z.place } in
      let no_tau : (k : (parallel Q U).state) → Joint Q U e k 64 → ⊥ = λ k m. elim m [
        | left g _ ↦ u.refuses.stable k.a g
        | right g _ ↦ z.refuses.stable k.b g
        | sync _ i v g g' ↦ z.refuses.none (complement i) (omega arith) (k.b, g')
            (inr (subst (λ (j : ℕ). Initial Q u.place j) (sym (complement_twice i v)) (k.a, g)))
      ] in
      record {
        place = e;
        reaches = reaches_both Q U u.reaches z.reaches;
        refuses = record {
          stable = no_tau;
          none = λ l v m x. elim m.1 [
            | left g _ ↦ u.refuses.none l v (m.0.a, g) (inl x)
            | right g _ ↦ z.refuses.none l v (m.0.b, g) (inl x)
            | sync i _ _ _ _ ↦ absurd (omega arith)
          ];
        };
        ready = w.back e u.ready z.ready;
      }

  pair_meets : Meets (parallel P S) (parallel Q U) Pair
  pair_meets = record {
    moves = λ s t r l v s' y.
        let g = follow y.1 t r in
        let o = step_one y.0 s' g.0 l v g.2 y.2 in
        (o.0, (o.1.0, reaches_trans (parallel Q U) g.1 o.1.1, o.1.2), o.2);
    refusals = λ s t r X y k.
        let g = follow k.reaches t r in
        let o = refuses_here k.place g.0 g.2 X y k.refuses k.ready in
        record {
          place = o.place;
          reaches = reaches_trans (parallel Q U) g.1 o.reaches;
          refuses = o.refuses;
          ready = o.ready;
        };
  }

pub parallel_meets : (P Q S U : Lts) (R : P.state → Q.state → Type 0) (V : S.state → U.state → Type 0) →
    Meets P Q R → Meets S U V → Meets (parallel P S) (parallel Q U) (SideBySide P Q S U R V)
parallel_meets P Q S U R V m n = pair_meets P Q S U R V (after_tau_meets P Q R m) (after_tau_meets S U V n)

pub parallel_keeps : (P Q S U : Lts) → Conforms P Q → Conforms S U → Conforms (parallel P S) (parallel Q U)
parallel_keeps P Q S U c d = record {
  by = SideBySide P Q S U c.by d.by;
  meets = parallel_meets P Q S U c.by d.by c.meets d.meets;
  starts = ((P.start, stay, c.starts), (S.start, stay, d.starts));
}
