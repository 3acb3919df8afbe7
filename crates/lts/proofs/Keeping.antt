-- Restriction and relabelling keep conformance.
use Rattle.std.proofs.Common.{◌≡◌, ℕ, ◌+◌, ◌*◌, ◌/◌, ◌%◌, ◌<◌, ◌≤◌, Bool, true, false, cond, T, ltb, sym, refl, ap, ◌∙◌, subst, arith, ltb→lt, lt→ltb}
use native.Mathlib.Decide.{dec_lt}
use Rattle.lts.specs.Labels.{complement, name_of}
use Rattle.lts.specs.Operators.{Names, relabel, renamed, restrict}
use Rattle.lts.specs.Systems.{Conforms, Lts, Meets, ReadyOn, ReadyRefusal, TauReaches, stay, step}

name_of_complement : (l : ℕ) → name_of (complement l) ≡ name_of l
name_of_complement l = omega arith

-- restrict
module _ (N : ℕ → Bool) (P : Lts) where
  restrict_in : {p q : P.state} → TauReaches P p q → TauReaches (restrict N P) p q
  restrict_in stay = stay
  restrict_in (step m d) = step (m, λ v. absurd (omega arith)) (restrict_in d)

  restrict_out : {p q : P.state} → TauReaches (restrict N P) p q → TauReaches P p q
  restrict_out stay = stay
  restrict_out (step m d) = step m.0 (restrict_out d)

pub restrict_meets : (N : ℕ → Bool) (P Q : Lts) (R : P.state → Q.state → Type 0) → Meets P Q R →
    Meets (restrict N P) (restrict N Q) R
restrict_meets N P Q R m₀ = record {
  moves = λ p q r l v p' y.
      let u = m₀.moves p q r l v p' (y.0, restrict_out N P y.1, y.2.0) in
      (u.0, (u.1.0, restrict_in N Q u.1.1, (u.1.2, y.2.1)), u.2);
  refusals = λ p q r X y k.
      let X' : ℕ → Type 0 = λ l. X l × (T (N (name_of l)) → ⊥) in
      let d : ReadyRefusal Q q X' y = m₀.refusals p q r X' y (record {
        place = k.place;
        reaches = restrict_out N P k.reaches;
        refuses = record {
          stable = λ t m. k.refuses.stable t (m, λ v. absurd (omega arith));
          none = λ l v m x. k.refuses.none l v
              (m.0, (m.1, λ w n. x.1 (subst (λ (i : ℕ). T (N i)) (sym (name_of_complement l)) n))) x.0;
        };
        ready = λ v. ((k.ready v).0, (k.ready v).1.0);
      }) in
      record {
        place = d.place;
        reaches = restrict_in N Q d.reaches;
        refuses = record {
          stable = λ t m. d.refuses.stable t m.0;
          none = λ l v m x. d.refuses.none l v (m.0, m.1.0)
              (x, λ n. m.1.1 v (subst (λ (i : ℕ). T (N i)) (name_of_complement l) n));
        };
        ready = λ v. ((d.ready v).0, ((d.ready v).1, (k.ready v).1.1));
      };
}

pub restrict_keeps : (N : ℕ → Bool) (P Q : Lts) → Conforms P Q → Conforms (restrict N P) (restrict N Q)
restrict_keeps N P Q c = record { by = c.by; meets = restrict_meets N P Q c.by c.meets; starts = c.starts }

-- relabel
module _ (f : ℕ → ℕ) (n : Names f) where
  renamed_visible : (l : ℕ) → l < 64 → renamed f l ≡ l / 32 * 32 + f (l % 32)
  renamed_visible l v = go (ltb l 64) (lt→ltb l 64 v)
    where
      go : (b : Bool) → T b → cond b (l / 32 * 32 + f (l % 32)) l ≡ l / 32 * 32 + f (l % 32)
      go true h = refl
      go false h = absurd h

  pub renamed_below : (l : ℕ) → l < 64 → renamed f l < 64
  renamed_below l v =
      let k : f (l % 32) < 32 = n (l % 32) (omega arith) in
      subst (λ (i : ℕ). i < 64) (sym (renamed_visible l v)) (omega arith)

  renamed_high : (l : ℕ) → 64 ≤ l → renamed f l ≡ l
  renamed_high l h = go (ltb l 64) (ltb→lt l 64)
    where
      go : (b : Bool) → (T b → l < 64) → cond b (l / 32 * 32 + f (l % 32)) l ≡ l
      go true k = absurd (let z : l < 64 = k tt in omega arith)
      go false k = refl

  visible_back : (l m : ℕ) → renamed f l ≡ m → m < 64 → l < 64
  visible_back l m e v = go (dec_lt l 64)
    where
      go : Dec (l < 64) → l < 64
      go (yes w) = w
      go (no h) = let k : renamed f l ≡ l = renamed_high l (omega arith) in
          absurd (h (subst (λ (i : ℕ). i < 64) (sym e ∙ k) v))

  tau_back : (l : ℕ) → renamed f l ≡ 64 → l ≡ 64
  tau_back l e = go (dec_lt l 64)
    where
      go : Dec (l < 64) → l ≡ 64
      go (yes v) = absurd (let k : 64 < 64 = subst (λ (i : ℕ). i < 64) e (renamed_below l v) in omega arith)
      go (no h) = sym (renamed_high l (omega arith)) ∙ e

  renamed_complement : (l : ℕ) → l < 64 → renamed f (complement l) ≡ complement (renamed f l)
  renamed_complement l v =
      let k : f (l % 32) < 32 = n (l % 32) (omega arith) in
      let a : complement l / 32 * 32 + f (complement l % 32) ≡ complement (l / 32 * 32 + f (l % 32)) =
      subst (λ (i : ℕ). complement l / 32 * 32 + f i ≡ complement (l / 32 * 32 + f (l % 32))) (sym (name_of_complement l)) (omega arith) in
      renamed_visible (complement l) (omega arith) ∙ a ∙ sym (ap complement (renamed_visible l v))

module _ (f : ℕ → ℕ) (n : Names f) (P : Lts) where
  relabel_in : {p q : P.state} → TauReaches P p q → TauReaches (relabel f P) p q
  relabel_in stay = stay
  relabel_in (step m d) = step (64, m, refl) (relabel_in d)

  tau_out : (p q : P.state) → (relabel f P).move p 64 q → P.move p 64 q
  tau_out p q m = subst (λ (l : ℕ). P.move p l q) (tau_back f n m.0 m.2) m.1

  relabel_out : {p q : P.state} → TauReaches (relabel f P) p q → TauReaches P p q
  relabel_out stay = stay
  relabel_out (step {p = p} {t = t} m d) = step (tau_out p t m) (relabel_out d)

pub relabel_meets : (f : ℕ → ℕ) → Names f → (P Q : Lts) (R : P.state → Q.state → Type 0) → Meets P Q R →
    Meets (relabel f P) (relabel f Q) R
relabel_meets f n P Q R m₀ = record {
  moves = λ p q r l v p' y.
      let w : y.2.0 < 64 = visible_back f n y.2.0 l y.2.2 v in
      let u = m₀.moves p q r y.2.0 w p' (y.0, relabel_out f n P y.1, y.2.1) in
      (u.0, (u.1.0, relabel_in f n Q u.1.1, (y.2.0, u.1.2, y.2.2)), u.2);
  refusals = λ p q r X y k. refusal p q r X y k (dec_lt y 64);
}
  where
    at : (p : P.state) (q : Q.state) → R p q → (X : ℕ → Type 0) (y z : ℕ) →
        (k : ReadyRefusal (relabel f P) p X y) → ReadyOn P k.place z → ReadyRefusal Q q (λ l. X (renamed f l)) z
    at p q r X y z k h = m₀.refusals p q r (λ l. X (renamed f l)) z (record {
      place = k.place;
      reaches = relabel_out f n P k.reaches;
      refuses = record {
        stable = λ t m. k.refuses.stable t (64, m, refl);
        none = λ l v m x. k.refuses.none (renamed f l) (renamed_below f n l v)
            (m.0, (l, m.1, refl)) (subst X (renamed_complement f n l v) x);
      };
      ready = h;
    })

    back : (q : Q.state) (X : ℕ → Type 0) (y z : ℕ) → (d : ReadyRefusal Q q (λ l. X (renamed f l)) z) →
        ReadyOn (relabel f Q) d.place y → ReadyRefusal (relabel f Q) q X y
    back q X y z d h = record {
      place = d.place;
      reaches = relabel_in f n Q d.reaches;
      refuses = record {
        stable = λ t m. d.refuses.stable t (tau_out f n Q d.place t m);
        none = λ l v m x.
            let w : m.1.0 < 64 = visible_back f n m.1.0 l m.1.2 v in
            d.refuses.none m.1.0 w (m.0, m.1.1)
            (subst X (ap complement (sym m.1.2) ∙ sym (renamed_complement f n m.1.0 w)) x);
      };
      ready = h;
    }

    refusal : (p : P.state) (q : Q.state) → R p q → (X : ℕ → Type 0) (y : ℕ) →
        ReadyRefusal (relabel f P) p X y → Dec (y < 64) → ReadyRefusal (relabel f Q) q X y
    refusal p q r X y k (yes v) =
        let z : ℕ = (k.ready v).1.0 in
        let w : z < 64 = visible_back f n z y (k.ready v).1.2 v in
        let d = at p q r X y z k (λ _. ((k.ready v).0, (k.ready v).1.1)) in
        back q X y z d (λ _. ((d.ready w).0, (z, (d.ready w).1, (k.ready v).1.2)))
    refusal p q r X y k (no w) =
        let d = at p q r X y 64 k (λ v. absurd (omega arith)) in
        back q X y 64 d (λ v. absurd (w v))

pub relabel_keeps : (f : ℕ → ℕ) → Names f → (P Q : Lts) → Conforms P Q → Conforms (relabel f P) (relabel f Q)
relabel_keeps f n P Q c = record { by = c.by; meets = relabel_meets f n P Q c.by c.meets; starts = c.starts }
