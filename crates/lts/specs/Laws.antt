-- What the laws of machines and systems say.
use Rattle.std.specs.Prelude.{ℕ, ◌<◌, Bool, T, ◌↔◌, List}
use Rattle.lts.specs.Systems.{Lts, Star, TauReaches, WeakStep, Stable, Initial, Stuck, Outside, CanGetStuck}
use Rattle.lts.specs.Machines.{Machine, Fits, system_of, tau_reaches, weak_step, stable, initial, stuck, reached_from}
use Rattle.lts.specs.Covering.{Covered, TestedRefusals}
use Rattle.lts.specs.Conformance.{MachineMeets, MachineConforms, largest}
use Rattle.lts.specs.Layers.{MachineLayer, in_machine_context}
use Rattle.lts.specs.Claims.{MeetsClauses}

-- each test of a machine tells what its word means of the machine's system
pub record ReadingsAgree (M : Machine) : Type 0 where
  pub reaching : (p q : ℕ) → T (tau_reaches M p q) ↔ TauReaches (system_of M) p q
  pub stepping : (p l q : ℕ) → T (weak_step M p l q) ↔ WeakStep (system_of M) p l q
  pub initials : (p l : ℕ) → T (initial M p l) ↔ Initial (system_of M) p l
  pub stability : (p : ℕ) → p < M.size → T (stable M p) ↔ Stable (system_of M) p
  pub being_stuck : (A : ℕ → Bool) (p : ℕ) → p < M.size → T (stuck M A p) ↔ Stuck (system_of M) A p
  pub reaching_outside : (A : ℕ → Bool) (p q : ℕ) → p < M.size → T (reached_from M A p q) ↔ Star (Outside (system_of M) A) p q

-- the second clause over label sets says that wherever p comes to rest, q can come to rest with no other initials
abbrev pub RefusalsAgree : Machine → Machine → Type 0
RefusalsAgree M N = (p q : ℕ) → TestedRefusals (system_of M) (system_of N) p q ↔ Covered (system_of M) (system_of N) p q

-- a relation between the systems that meets both clauses and holds the starts shows that the first machine conforms
abbrev pub ShowsConformance : Machine → Machine → (ℕ → ℕ → Type 0) → Type 0
ShowsConformance M N R =
    MeetsClauses (system_of M) (system_of N) R → R M.start N.start → MachineConforms M N

-- the pairs that stand are such a relation
pub record TestedConformance (M N : Machine) : Type 0 where
  pub meets : MeetsClauses (system_of M) (system_of N) (λ p q. T (largest M N p q))
  pub starts : T (largest M N M.start N.start)

-- of all relations that meet both clauses, `largest` is the largest
pub record IsLargest (M N : Machine) : Type 0 where
  pub meets : MachineMeets M N (largest M N)
  pub holds : (R : ℕ → ℕ → Bool) → MachineMeets M N R → (p q : ℕ) → p < M.size → q < N.size → T (R p q) → T (largest M N p q)

-- one context put over two machines, where neither becomes too large, keeps the first conforming to the second
abbrev pub ContextKeeps : List MachineLayer → Machine → Machine → Type 0
ContextKeeps context M N =
    Fits (in_machine_context context M) → Fits (in_machine_context context N) →
    MachineConforms M N → MachineConforms (in_machine_context context M) (in_machine_context context N)

-- on every set of names, the first system can get stuck only if the second can
abbrev pub StuckOnlyIf : Lts → Lts → Type 0
StuckOnlyIf P Q = (A : ℕ → Bool) → CanGetStuck P A → CanGetStuck Q A
