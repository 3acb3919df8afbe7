-- Conformance of machines. The relations and the label sets are tests here; that it is the conformance of their
-- systems, whose relations and label sets are any properties, is a law.
use Rattle.std.specs.Prelude.{ℕ, zero, suc, ◌*◌, ◌<◌, Bool, ◌&&◌, T, nat_lt}
use Rattle.lts.specs.Systems.{WeakStep, ReadyRefusal}
use Rattle.lts.specs.Machines.{Machine, system_of, some_below, each_below, implies, tau_reaches, weak_step, stable, initial}

-- a relation between the states of M and N meets both clauses
pub record MachineMeets (M N : Machine) (R : ℕ → ℕ → Bool) : Type 0 where
  pub moves : (p q : ℕ) → T (R p q) → (l : ℕ) → l < 64 → (p' : ℕ) → WeakStep (system_of M) p l p' →
      (q' : ℕ) × WeakStep (system_of N) q l q' × T (R p' q')
  pub refusals : (p q : ℕ) → T (R p q) → (X : ℕ → Bool) (y : ℕ) →
      ReadyRefusal (system_of M) p (λ l. T (X l)) y → ReadyRefusal (system_of N) q (λ l. T (X l)) y

-- some relation meets both clauses and holds the two starts
pub record MachineConforms (M N : Machine) : Type 0 where
  pub by : ℕ → ℕ → Bool
  pub meets : MachineMeets M N by
  pub starts : T (by M.start N.start)

-- q' is stable, has no initial that p' has not, and has the initial y if y is a visible label
unfoldable pub covers : Machine → Machine → ℕ → ℕ → ℕ → Bool
covers M N p' y q' =
    stable N q' && (each_below 64 (λ l. implies (initial N q' l) (initial M p' l)) && implies (nat_lt y 64) (initial N q' y))

-- the pair (p, q) passes the first clause against a relation
unfoldable pub passes_moves : Machine → Machine → (ℕ → ℕ → Bool) → ℕ → ℕ → Bool
passes_moves M N S p q =
    each_below 64 (λ l. each_below M.size (λ p'.
    implies (weak_step M p l p') (some_below N.size (λ q'. weak_step N q l q' && S p' q'))))

-- the pair passes the second clause: label 64 stands for no label
unfoldable pub passes_refusals : Machine → Machine → ℕ → ℕ → Bool
passes_refusals M N p q =
    each_below M.size (λ p'. each_below 65 (λ y.
    implies (tau_reaches M p p' && (stable M p' && implies (nat_lt y 64) (initial M p' y)))
    (some_below N.size (λ q'. tau_reaches N q q' && covers M N p' y q'))))

unfoldable pub passes : Machine → Machine → (ℕ → ℕ → Bool) → ℕ → ℕ → Bool
passes M N S p q = passes_moves M N S p q && passes_refusals M N p q

-- the pairs that stand after k rounds: in each round those pass that pass against all that stood before it
unfoldable pub standing : Machine → Machine → ℕ → ℕ → ℕ → Bool
standing M N zero p q = nat_lt p M.size && nat_lt q N.size
standing M N (suc k) p q = standing M N k p q && passes M N (standing M N k) p q

-- the pairs that stand after as many rounds as there are pairs
abbrev pub largest : Machine → Machine → ℕ → ℕ → Bool
largest M N = standing M N (M.size * N.size)
