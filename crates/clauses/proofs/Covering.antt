-- A state of the contract covers a rest: tested without a label, and then with one.
use Rattle.std.proofs.Common.{◌≡◌, ℕ, ◌<◌, Bool, true, false, not, ◌&&◌, ltb, Some, None, Option, sym, refl, ap, ◌∙◌}
use Rattle.std.proofs.lemmas.Bool.{lt-ltb}
use Rattle.lts.specs.Machines.{Machine, some_below, each_below, implies, stable, initial}
use Rattle.lts.specs.Conformance.{covers}
use Rattle.labels.proofs.Bits.{and_true}
use Rattle.clauses.specs.Candidates.{or_else, when, first_some, rests_at, rest_fails, rest_on, first_rest_at}
use Rattle.clauses.proofs.Somes.{some_alike, each_alike}

-- a test of four parts, grouped
assoc : (a b c d : Bool) → (a && (b && (c && d))) ≡ ((a && (b && c)) && d)
assoc true true c d = refl
assoc true false c d = refl
assoc false b c d = refl

module _ (M N : Machine) (U : ℕ → ℕ → Bool) (q p' : ℕ) (f : ℕ → Bool) (same : (l : ℕ) → l < 64 → f l ≡ initial M p' l) where
  covers_by : (y v : ℕ) → (U q v && covers M N p' y v) ≡ (rests_at N U q f v && implies (ltb y 64) (initial N v y))
  unfolding covers rests_at
  covers_by y v =
      ap (λ (b : Bool). U q v && (stable N v && (b && implies (ltb y 64) (initial N v y))))
      (each_alike 64 (λ l. implies (initial N v l) (initial M p' l)) (λ l. implies (initial N v l) (f l)) (λ l h. ap (λ (b : Bool). implies (initial N v l) b) (sym (same l h))))
      ∙ assoc (U q v) (stable N v) (each_below 64 (λ l. implies (initial N v l) (f l))) (implies (ltb y 64) (initial N v y))

  -- without a label
  pub fails_bare : rest_fails M N U q p' 64 ≡ not (some_below N.size (rests_at N U q f))
  unfolding rest_fails
  fails_bare = ap not (some_alike N.size (λ v. U q v && covers M N p' 64 v) (rests_at N U q f) (λ v h. covers_by 64 v ∙ and_true (rests_at N U q f v)))

  -- with one
  pub fails_with : (l : ℕ) → l < 64 → rest_fails M N U q p' l ≡ (initial M p' l && not (some_below N.size (λ v. rests_at N U q f v && initial N v l)))
  unfolding rest_fails
  fails_with l h =
      ap (λ (b : Bool). implies b (initial M p' l) && not (some_below N.size (λ v. U q v && covers M N p' l v))) (lt-ltb l 64 h)
      ∙ ap (λ (b : Bool). initial M p' l && not b)
      (some_alike N.size (λ v. U q v && covers M N p' l v) (λ v. rests_at N U q f v && initial N v l)
      (λ v _. covers_by l v ∙ ap (λ (b : Bool). rests_at N U q f v && implies b (initial N v l)) (lt-ltb l 64 h)))

-- the first label with which a rest is not covered
pub bare_first : (M N : Machine) (U : ℕ → ℕ → Bool) (q p' : ℕ) → rest_fails M N U q p' 64 ≡ true → first_rest_at M N U q p' ≡ Some (None, p')
unfolding first_rest_at
bare_first M N U q p' e = ap (λ (b : Bool). or_else (when {A = Option ℕ × ℕ} b (None, p')) (first_some (rest_on M N U q p') 64 0)) e

-- then the labels are tried
pub bare_covered : (M N : Machine) (U : ℕ → ℕ → Bool) (q p' : ℕ) → rest_fails M N U q p' 64 ≡ false → first_rest_at M N U q p' ≡ first_some (rest_on M N U q p') 64 0
unfolding first_rest_at
bare_covered M N U q p' e = ap (λ (b : Bool). or_else (when {A = Option ℕ × ℕ} b (None, p')) (first_some (rest_on M N U q p') 64 0)) e

-- a label with which it is not covered
pub on_fails : (M N : Machine) (U : ℕ → ℕ → Bool) (q p' l : ℕ) → rest_fails M N U q p' l ≡ true → rest_on M N U q p' l ≡ Some (Some l, p')
unfolding rest_on
on_fails M N U q p' l e = ap (λ (b : Bool). when {A = Option ℕ × ℕ} b (Some l, p')) e

-- and one with which it is
pub on_covered : (M N : Machine) (U : ℕ → ℕ → Bool) (q p' l : ℕ) → rest_fails M N U q p' l ≡ false → rest_on M N U q p' l ≡ None
unfolding rest_on
on_covered M N U q p' l e = ap (λ (b : Bool). when {A = Option ℕ × ℕ} b (Some l, p')) e
