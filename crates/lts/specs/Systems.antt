-- Labelled transition systems of any size, and what is said of their states.
use Rattle.std.specs.Prelude.{ℕ, ◌<◌, Bool, T, ◌⊎◌}
use Rattle.lts.specs.Labels.{complement, name_of}

-- any set of states with a start, and moves on labels 0 to 64
pub record Lts : Type 1 where
  pub state : Type 0
  pub start : state
  pub move : state → ℕ → state → Type 0

-- zero or more steps
pub data Star {S : Type 0} (R : S → S → Type 0) : S → S → Type 0 where
  stay : {p : S} → Star R p p
  step : {p t q : S} → R p t → Star R t q → Star R p q

-- zero or more silent moves lead from the one state to the other
abbrev pub TauReaches : (L : Lts) → L.state → L.state → Type 0
TauReaches L = Star (λ p q. L.move p 64 q)

-- silent moves, then one move on the label; no silent move follows it
abbrev pub WeakStep : (L : Lts) → L.state → ℕ → L.state → Type 0
WeakStep L p l q = (t : L.state) × TauReaches L p t × L.move t l q

-- no silent move
abbrev pub Stable : (L : Lts) → L.state → Type 0
Stable L p = (t : L.state) → L.move p 64 t → ⊥

-- some move of the state has the label
abbrev pub Initial : (L : Lts) → L.state → ℕ → Type 0
Initial L p l = (t : L.state) × L.move p l t

-- a state refuses a set of labels: it is stable, and the complement of none of its initials is in the set
pub record Refuses (L : Lts) (p : L.state) (X : ℕ → Type 0) : Type 0 where
  pub stable : Stable L p
  pub none : (l : ℕ) → l < 64 → Initial L p l → X (complement l) → ⊥

-- A set of at most one label is a number: the label itself if it is visible, else the empty set.
abbrev pub ReadyOn : (L : Lts) → L.state → ℕ → Type 0
ReadyOn L p y = y < 64 → Initial L p y

-- silent moves lead to a state that refuses X and is ready on Y
pub record ReadyRefusal (L : Lts) (p : L.state) (X : ℕ → Type 0) (y : ℕ) : Type 0 where
  pub place : L.state
  pub reaches : TauReaches L p place
  pub refuses : Refuses L place X
  pub ready : ReadyOn L place y

-- a relation between the states of P and Q meets the two clauses of stuck-free conformance
pub record Meets (P Q : Lts) (R : P.state → Q.state → Type 0) : Type 1 where
  -- what p does on a visible label, q does too, and the relation holds what they come to
  pub moves : (p : P.state) (q : Q.state) → R p q →
      (l : ℕ) → l < 64 → (p' : P.state) → WeakStep P p l p' → (q' : Q.state) × WeakStep Q q l q' × R p' q'
  -- what p can refuse while ready on a label, or on none, q can refuse while ready on the same
  pub refusals : (p : P.state) (q : Q.state) → R p q →
      (X : ℕ → Type 0) (y : ℕ) → ReadyRefusal P p X y → ReadyRefusal Q q X y

-- some relation meets both clauses and holds the two starts
pub record Conforms (P Q : Lts) : Type 1 where
  pub by : P.state → Q.state → Type 0
  pub meets : Meets P Q by
  pub starts : by P.start Q.start

-- stuck on a set A of names: stable, with some initial, and each initial has its name in A
pub record Stuck (L : Lts) (A : ℕ → Bool) (p : L.state) : Type 0 where
  pub stable : Stable L p
  pub label : ℕ
  pub visible : label < 64
  pub initial : Initial L p label
  pub within : (l : ℕ) → l < 64 → Initial L p l → T (A (name_of l))

-- a move that is silent, or on a name outside A
abbrev pub Outside : (L : Lts) → (ℕ → Bool) → L.state → L.state → Type 0
Outside L A p q = L.move p 64 q ⊎ ((l : ℕ) × (l < 64) × (T (A (name_of l)) → ⊥) × L.move p l q)

-- such moves lead from the start to a state that is stuck on A
pub record CanGetStuck (L : Lts) (A : ℕ → Bool) : Type 0 where
  pub place : L.state
  pub reaches : Star (Outside L A) L.start place
  pub stuck : Stuck L A place
