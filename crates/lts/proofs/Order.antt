-- Conformance is a preorder, and keeps from getting stuck.
use Rattle.std.proofs.Common.{◌≡◌, ℕ, Bool, T, sym, refl, subst, inl, inr, arith}
use Rattle.lts.specs.Labels.{complement, name_of}
use Rattle.lts.specs.Systems.{Lts, Star, TauReaches, stay, step, WeakStep, ReadyRefusal, Meets, Conforms, Stuck, Outside, CanGetStuck}
use Rattle.lts.specs.Claims.{AfterTau}
use Rattle.lts.proofs.Tests.{TStable}

pub star_trans : {S : Type 0} {R : S → S → Type 0} {p t q : S} → Star R p t → Star R t q → Star R p q
star_trans stay e = e
star_trans (step m d) e = step m (star_trans d e)

pub reaches_trans : (L : Lts) {p t q : L.state} → TauReaches L p t → TauReaches L t q → TauReaches L p q
reaches_trans L d e = star_trans d e

pub refl_meets : (P : Lts) → Meets P P (λ p q. p ≡ q)
refl_meets P = record {
  moves = λ p q e l v p' y. (p', subst (λ (t : P.state). WeakStep P t l p') e y, refl);
  refusals = λ p q e X y c. subst (λ (t : P.state). ReadyRefusal P t X y) e c;
}

pub conforms_refl : (P : Lts) → Conforms P P
conforms_refl P = record { by = λ p q. (p ≡ q); meets = refl_meets P; starts = refl }

-- relations one after the other
pub trans_meets : (P Q S : Lts) (R : P.state → Q.state → Type 0) (V : Q.state → S.state → Type 0) → Meets P Q R → Meets Q S V →
    Meets P S (λ p s. ((q : Q.state) × R p q × V q s))
trans_meets P Q S R V a b = record {
  moves = λ p s r l v p' y.
      let u = a.moves p r.0 r.1 l v p' y in
      let w = b.moves r.0 s r.2 l v u.0 u.1 in
      (w.0, w.1, (u.0, u.2, w.2));
  refusals = λ p s r X y c. b.refusals r.0 s r.2 X y (a.refusals p r.0 r.1 X y c);
}

pub conforms_trans : (P Q S : Lts) → Conforms P Q → Conforms Q S → Conforms P S
conforms_trans P Q S a b = record {
  by = λ p s. ((q : Q.state) × a.by p q × b.by q s);
  meets = trans_meets P Q S a.by b.by a.meets b.meets;
  starts = (Q.start, a.starts, b.starts);
}

-- a relation that meets the clauses still does when its left states may go on silently
pub after_tau_meets : (P Q : Lts) (R : P.state → Q.state → Type 0) → Meets P Q R → Meets P Q (AfterTau P Q R)
after_tau_meets P Q R m = record {
  moves = λ p q r l v p' y.
      let u = m.moves r.0 q r.2 l v p' (y.0, reaches_trans P r.1 y.1, y.2) in
      (u.0, u.1, (p', stay, u.2));
  refusals = λ p q r X y c.
      m.refusals r.0 q r.2 X y (record {
        place = c.place;
        reaches = reaches_trans P r.1 c.reaches;
        refuses = c.refuses;
        ready = c.ready;
      });
}

pub after_tau_later : (P Q : Lts) (R : P.state → Q.state → Type 0) (p t : P.state) (q : Q.state) →
    AfterTau P Q R p q → P.move p 64 t → AfterTau P Q R t q
after_tau_later P Q R p t q r m = (r.0, reaches_trans P r.1 (step m stay), r.2)

-- silent moves before moves outside A
outside_after : (L : Lts) (A : ℕ → Bool) {p t q : L.state} → TauReaches L p t → Star (Outside L A) t q → Star (Outside L A) p q
outside_after L A stay g = g
outside_after L A (step m d) g = step (inl m) (outside_after L A d g)

name_of_complement : (l : ℕ) → name_of (complement l) ≡ name_of l
name_of_complement l = omega arith

-- what is stuck has a partner that comes to rest stuck; a path to it has one too
module _ (P Q : Lts) (A : ℕ → Bool) (R : P.state → Q.state → Type 0) (c : Meets P Q R) where
  stuck_end : (p : P.state) (q : Q.state) → R p q → Stuck P A p → (t : Q.state) × TauReaches Q q t × Stuck Q A t
  stuck_end p q r s =
      let X : ℕ → Type 0 = λ l. (T (A (name_of l)) → ⊥) in
      let d : ReadyRefusal Q q X s.label = c.refusals p q r X s.label (record {
        place = p;
        reaches = stay;
        refuses = record {
          stable = s.stable;
          none = λ l v k x. x (subst (λ (n : ℕ). T (A n)) (sym (name_of_complement l)) (s.within l v k));
        };
        ready = λ v. s.initial;
      }) in (
        d.place,
        d.reaches,
        record {
          stable = d.refuses.stable;
          label = s.label;
          visible = s.visible;
          initial = d.ready s.visible;
          within = λ l v k. TStable (A (name_of l)) (λ h.
              d.refuses.none l v k (λ a. h (subst (λ (n : ℕ). T (A n)) (name_of_complement l) a)));
        },
      )

  module _ (later : (p t : P.state) (q : Q.state) → R p q → P.move p 64 t → R t q) where
    stuck_path : (p t : P.state) → Star (Outside P A) p t → (q : Q.state) → R p q → Stuck P A t →
        (u : Q.state) × Star (Outside Q A) q u × Stuck Q A u
    stuck_path p t stay q r s =
        let e = stuck_end p q r s in
        (e.0, outside_after Q A e.1 stay, e.2)
    stuck_path p t (step {t = p1} (inl m) g) q r s = stuck_path p1 t g q (later p p1 q r m) s
    stuck_path p t (step {t = p1} (inr o) g) q r s =
        let y = c.moves p q r o.0 o.1 p1 (p, stay, o.3) in
        let e = stuck_path p1 t g y.0 y.2 s in
        (e.0, outside_after Q A y.1.1 (step (inr (o.0, o.1, o.2, y.1.2)) e.1), e.2)

-- a system that conforms to another gets stuck only where that can
pub conforms_stuck : (P Q : Lts) → Conforms P Q → (A : ℕ → Bool) → CanGetStuck P A → CanGetStuck Q A
conforms_stuck P Q c A s =
    let e = stuck_path P Q A (AfterTau P Q c.by) (after_tau_meets P Q c.by c.meets) (after_tau_later P Q c.by)
    P.start s.place s.reaches Q.start (P.start, stay, c.starts) s.stuck in
    record { place = e.0; reaches = e.1; stuck = e.2 }
