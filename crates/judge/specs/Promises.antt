-- What a verdict promises.
use Rattle.std.specs.Prelude.{◌≡◌, ℕ, suc, ◌<◌, ◌≤◌, Bool, ◌&&◌, T, ◌↔◌, List, Some, None, Ok, nat_lt}
use Rattle.lts.specs.Systems.{TauReaches, WeakStep, Stable, Initial}
use Rattle.lts.specs.Machines.{Machine, Sound, Fits, system_of}
use Rattle.lts.specs.Covering.{Witness}
use Rattle.lts.specs.Conformance.{MachineMeets, MachineConforms}
use Rattle.lts.specs.Claims.{MeetsClauses}
use Rattle.lts.specs.Layers.{MachineLayer, in_machine_context}
use Rattle.clauses.specs.declared.counterexample.Counterexample.{Counterexample}
use Rattle.clauses.specs.declared.counterexample.Counterexample.TheVariants.{Move, Rest}
use Rattle.ranks.specs.Rounds.{stands, ranks_after, final_ranks}
use Rattle.ranks.specs.Filled.{total}
use Rattle.judge.specs.declared.verdict.Verdict.{Verdict}
use Rattle.judge.specs.declared.verdict.Answer.TheVariants.{Yes, No}
use Rattle.judge.specs.Verdicts.{answer, judged}

-- the pairs of states that stand at the end
unfoldable pub standing_pairs : Machine → Machine → ℕ → ℕ → Bool
standing_pairs M N p q = (nat_lt p M.size && nat_lt q N.size) && stands N (final_ranks M N) p q

-- some relation that meets both clauses holds the pair
pub record Related (M N : Machine) (p q : ℕ) : Type 0 where
  pub by : ℕ → ℕ → Bool
  pub meets : MachineMeets M N by
  pub holds : T (by p q)

-- the pairs that stand are the largest relation that meets both clauses, and the answer is yes exactly when they hold the starts
pub record LargestRelation (M N : Machine) (R : ℕ → ℕ → Type 0) : Type 0 where
  -- a pair of states stands exactly when some relation that meets both clauses holds it
  pub exactly : (p q : ℕ) → p < M.size → q < N.size → T (standing_pairs M N p q) ↔ Related M N p q
  -- the pairs that stand are such a relation
  pub meets : MachineMeets M N (standing_pairs M N)
  -- a relation of any kind that meets both clauses holds no other pairs of states
  pub any : MeetsClauses (system_of M) (system_of N) R → (p q : ℕ) → p < M.size → q < N.size → R p q → T (standing_pairs M N p q)
  pub yes : (answer M N ≡ Yes) ↔ T (standing_pairs M N M.start N.start)
  pub conforming : (answer M N ≡ Yes) ↔ MachineConforms M N

abbrev pub FindsTheLargest : Machine → Machine → (ℕ → ℕ → Type 0) → Type 0
FindsTheLargest M N R = Fits M → Fits N → LargestRelation M N R

-- one context put over two machines, of which one conforms to the other: the verdict is yes
abbrev pub ContextKeepsYes : Machine → Machine → ℕ → Type 0
ContextKeepsYes M N room = (context : List MachineLayer) (M₀ N₀ : Machine) → Sound M₀ → Sound N₀ →
    M ≡ in_machine_context context M₀ → N ≡ in_machine_context context N₀ → MachineConforms M₀ N₀ →
    Fits M → Fits N → total M N ≤ room → (v : Verdict) × (judged M N room ≡ Ok v) × (v.answer ≡ Yes)

-- the counterexample fails against the pairs S: nothing that q can do matches the move, or covers the rest
abbrev pub Fails : Machine → Machine → (ℕ → ℕ → Bool) → ℕ → ℕ → Counterexample → Type 0
Fails M N S p q (Move l p') = (l < 64) × WeakStep (system_of M) p l p' × ((q' : ℕ) → WeakStep (system_of N) q l q' → T (S p' q') → ⊥)
Fails M N S p q (Rest None p') = TauReaches (system_of M) p p' × Stable (system_of M) p' × (Witness (system_of M) (system_of N) p' 64 q → ⊥)
Fails M N S p q (Rest (Some l) p') =
    (l < 64) × TauReaches (system_of M) p p' × Stable (system_of M) p' × Initial (system_of M) p' l × (Witness (system_of M) (system_of N) p' l q → ⊥)

-- a no names a round, and its counterexample fails against the pairs standing before that round
abbrev pub CounterexampleFails : Machine → Machine → Type 0
CounterexampleFails M N = Fits M → Fits N → (round : ℕ) (c : Counterexample) → answer M N ≡ No round c →
    (k : ℕ) × (round ≡ suc k) × Fails M N (stands N (ranks_after M N k)) M.start N.start c
