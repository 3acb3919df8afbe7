-- Conformance of systems as a contract can state it. A contract speaks of two given systems and a given relation, so
-- conformance becomes a claim: that the relation meets both clauses. That it holds the starts is part of the claim.
use Rattle.std.specs.Prelude.{◌≡◌, ℕ, ◌<◌, Bool, List, [], ◌∷◌, refl}
use Rattle.lts.specs.Systems.{Lts, WeakStep, TauReaches, stay, ReadyRefusal}
use Rattle.lts.specs.Operators.{restrict, relabel, parallel}
use Rattle.lts.specs.Covering.{Covered¬¬}
use Rattle.lts.specs.Contexts.{Layer, restricting, relabelling, with_right, with_left}

-- both clauses, the second without label sets
pub record MeetsClauses (P Q : Lts) (R : P.state → Q.state → Type 0) : Type 0 where
  pub moves : (p : P.state) (q : Q.state) → R p q →
      (l : ℕ) → l < 64 → (p' : P.state) → WeakStep P p l p' → (q' : Q.state) × WeakStep Q q l q' × R p' q'
  pub refusals : (p : P.state) (q : Q.state) → R p q → Covered¬¬ P Q p q

pub record Claim : Type 1 where
  pub actual : Lts
  pub promised : Lts
  pub by : actual.state → promised.state → Type 0
  pub starts : by actual.start promised.start

abbrev pub Holds : Claim → Type 0
Holds c = MeetsClauses c.actual c.promised c.by

-- the second clause at one set of labels
abbrev pub RefusalsFor : Claim → (ℕ → Type 0) → Type 0
RefusalsFor c X = (p : c.actual.state) (q : c.promised.state) → c.by p q → (y : ℕ) →
    ReadyRefusal c.actual p X y → ReadyRefusal c.promised q X y

-- equality, for every system
abbrev pub reflexive : Lts → Claim
reflexive L = record { actual = L; promised = L; by = λ p q. (p ≡ q); starts = refl }

-- two claims of which the second begins where the first ends
pub record Chain : Type 1 where
  pub first : Lts
  pub middle : Lts
  pub last : Lts
  pub by_first : first.state → middle.state → Type 0
  pub by_last : middle.state → last.state → Type 0
  pub starts_first : by_first first.start middle.start
  pub starts_last : by_last middle.start last.start

abbrev pub HoldsBoth : Chain → Type 0
HoldsBoth c = MeetsClauses c.first c.middle c.by_first × MeetsClauses c.middle c.last c.by_last

-- one after the other
abbrev pub composed : Chain → Claim
composed c = record {
  actual = c.first;
  promised = c.last;
  by = λ p s. ((q : c.middle.state) × c.by_first p q × c.by_last q s);
  starts = (c.middle.start, c.starts_first, c.starts_last);
}

-- p is reached by silent moves from a state that the relation holds
abbrev pub AfterTau : (P Q : Lts) → (P.state → Q.state → Type 0) → P.state → Q.state → Type 0
AfterTau P Q R p q = (o : P.state) × TauReaches P o p × R o q

-- the relation between two systems in parallel
abbrev pub SideBySide : (P Q S U : Lts) → (P.state → Q.state → Type 0) → (S.state → U.state → Type 0) →
    (parallel P S).state → (parallel Q U).state → Type 0
SideBySide P Q S U R V s t = AfterTau P Q R s.a t.a × AfterTau S U V s.b t.b

abbrev pub claim_restrict : (ℕ → Bool) → Claim → Claim
claim_restrict N c = record {
  actual = restrict N c.actual;
  promised = restrict N c.promised;
  by = c.by;
  starts = c.starts;
}

abbrev pub claim_relabel : (ℕ → ℕ) → Claim → Claim
claim_relabel f c = record {
  actual = relabel f c.actual;
  promised = relabel f c.promised;
  by = c.by;
  starts = c.starts;
}

abbrev pub claim_parallel : Claim → Claim → Claim
claim_parallel c d = record {
  actual = parallel c.actual d.actual;
  promised = parallel c.promised d.promised;
  by = SideBySide c.actual c.promised d.actual d.promised c.by d.by;
  starts = ((c.actual.start, stay, c.starts), (d.actual.start, stay, d.starts));
}

abbrev pub claim_layer : Layer → Claim → Claim
claim_layer (restricting N) c = claim_restrict N c
claim_layer (relabelling f n) c = claim_relabel f c
claim_layer (with_right E) c = claim_parallel c (reflexive E)
claim_layer (with_left E) c = claim_parallel (reflexive E) c

-- the same context over both systems of a claim
abbrev pub claim_in_context : List Layer → Claim → Claim
claim_in_context [] c = c
claim_in_context (x ∷ xs) c = claim_layer x (claim_in_context xs c)
