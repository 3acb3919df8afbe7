-- The second clause without label sets: where p can come to rest, q can come to rest with no other initials.
use Rattle.std.specs.Prelude.{ℕ, ◌<◌, Bool, T}
use Rattle.lts.specs.Systems.{Lts, TauReaches, Stable, Initial, ReadyOn, ReadyRefusal}

-- q can come to rest where it is ready on y, and has no initial that p' has not
pub record Witness (P Q : Lts) (p' : P.state) (y : ℕ) (q : Q.state) : Type 0 where
  pub place : Q.state
  pub reaches : TauReaches Q q place
  pub stable : Stable Q place
  pub inside : (l : ℕ) → l < 64 → Initial Q place l → Initial P p' l
  pub ready : ReadyOn Q place y

-- the same, with the inclusion only not to be refuted: all that label sets can tell of a system of any size
pub record Witness¬¬ (P Q : Lts) (p' : P.state) (y : ℕ) (q : Q.state) : Type 0 where
  pub place : Q.state
  pub reaches : TauReaches Q q place
  pub stable : Stable Q place
  pub inside : (l : ℕ) → l < 64 → Initial Q place l → (Initial P p' l → ⊥) → ⊥
  pub ready : ReadyOn Q place y

abbrev pub Covered : (P Q : Lts) → P.state → Q.state → Type 0
Covered P Q p q = (p' : P.state) → TauReaches P p p' → Stable P p' → (y : ℕ) → ReadyOn P p' y → Witness P Q p' y q

abbrev pub Covered¬¬ : (P Q : Lts) → P.state → Q.state → Type 0
Covered¬¬ P Q p q = (p' : P.state) → TauReaches P p p' → Stable P p' → (y : ℕ) → ReadyOn P p' y → Witness¬¬ P Q p' y q

-- the second clause at one pair, over all label sets; and over those that a test tells
abbrev pub Refusals : (P Q : Lts) → P.state → Q.state → Type 1
Refusals P Q p q = (X : ℕ → Type 0) (y : ℕ) → ReadyRefusal P p X y → ReadyRefusal Q q X y

abbrev pub TestedRefusals : (P Q : Lts) → P.state → Q.state → Type 0
TestedRefusals P Q p q = (X : ℕ → Bool) (y : ℕ) → ReadyRefusal P p (λ l. T (X l)) y → ReadyRefusal Q q (λ l. T (X l)) y
