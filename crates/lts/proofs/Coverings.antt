use Rattle.std.proofs.Common.{◌≡◌, ℕ, ◌<◌, Bool, not, T, sym, subst, arith}
use Rattle.lts.proofs.Tests.{Tells, TStable, tells_not}
use Rattle.lts.specs.Covering.{Covered, Covered¬¬, Refusals, TestedRefusals}
use Rattle.lts.specs.Labels.{complement}
use Rattle.lts.specs.Systems.{Initial, Lts, ReadyRefusal}

complement_twice : (l : ℕ) → l < 64 → complement (complement l) ≡ l
complement_twice l v = omega arith

module _ (P Q : Lts) (p : P.state) (q : Q.state) where
  pub covered_weak : Covered P Q p q → Covered¬¬ P Q p q
  covered_weak h p' d u y r = let e = h p' d u y r in record {
    place = e.place;
    reaches = e.reaches;
    stable = e.stable;
    inside = λ l v k n. n (e.inside l v k);
    ready = e.ready;
  }

  pub refusals_of : Covered¬¬ P Q p q → Refusals P Q p q
  refusals_of h X y k = let e = h k.place k.reaches k.refuses.stable y k.ready in record {
    place = e.place;
    reaches = e.reaches;
    refuses = record {
      stable = e.stable;
      none = λ l v m x. e.inside l v m (λ n. k.refuses.none l v n x);
    };
    ready = e.ready;
  }

  -- at every system
  pub refusals_to : Refusals P Q p q → Covered¬¬ P Q p q
  refusals_to h p' d u y r =
      let X : ℕ → Type 0 = λ l. (Initial P p' (complement l) → ⊥) in
      let k : ReadyRefusal Q q X y = h X y (record {
        place = p';
        reaches = d;
        refuses = record {
          stable = u;
          none = λ l v m x. x (subst (λ (i : ℕ). Initial P p' i) (sym (complement_twice l v)) m);
        };
        ready = r;
      }) in
      record {
        place = k.place;
        reaches = k.reaches;
        stable = k.refuses.stable;
        inside = λ l v m n. k.refuses.none l v m (λ i. n (subst (λ (i : ℕ). Initial P p' i) (complement_twice l v) i));
        ready = k.ready;
      }

  pub refusals_tested : Refusals P Q p q → TestedRefusals P Q p q
  refusals_tested h X y = h (λ l. T (X l)) y

  -- where a test tells readiness, Boolean sets suffice
  pub refusals_decided : (test : P.state → ℕ → Bool) → ((s : P.state) (l : ℕ) → Tells (test s l) (Initial P s l)) →
      TestedRefusals P Q p q → Covered P Q p q
  refusals_decided test t h p' d u y r =
      let X : ℕ → Bool = λ l. not (test p' (complement l)) in
      let k : ReadyRefusal Q q (λ l. T (X l)) y = h X y (record {
        place = p';
        reaches = d;
        refuses = record {
          stable = u;
          none = λ l v m x. (tells_not (t p' (complement (complement l)))).to x (subst (λ (i : ℕ). Initial P p' i) (sym (complement_twice l v)) m);
        };
        ready = r;
      }) in
      record {
        place = k.place;
        reaches = k.reaches;
        stable = k.refuses.stable;
        inside = λ l v m. (t p' l).to (TStable (test p' l) (λ n. k.refuses.none l v m
            ((tells_not (t p' (complement (complement l)))).of (λ i. n ((t p' l).of (subst (λ (i : ℕ). Initial P p' i) (complement_twice l v) i))))));
        ready = k.ready;
      }
