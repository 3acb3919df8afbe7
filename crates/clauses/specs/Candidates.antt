-- The candidates of a pair (p, q) of states, in order, and the first that fails against the pairs S. R and U tell where
-- silent moves lead in the two machines: what a closure holds, or `tau_reaches` itself.
use Rattle.std.specs.Prelude.{◌≡◌, ℕ, zero, suc, ◌<◌, Bool, true, cond, not, ◌&&◌, List, length, Some, None, Option, nat_lt}
use Rattle.lts.specs.Labels.{member}
use Rattle.lts.specs.Machines.{Machine, some_below, each_below, implies, tau_reaches, stable, initial}
use Rattle.lts.specs.Conformance.{covers}
use Rattle.clauses.specs.Ranks.{row_reads, stood_at}
use Rattle.clauses.specs.declared.counterexample.Counterexample.{Counterexample}
use Rattle.clauses.specs.declared.counterexample.Counterexample.TheVariants.{Move, Rest}

abbrev pub or_else : {A : Type 0} → Option A → Option A → Option A
or_else None other = other
or_else (Some x) other = Some x

abbrev pub when : {A : Type 0} → Bool → A → Option A
when b x = cond b (Some x) None

-- the first that is some, of what f gives at the n numbers from k on
unfoldable pub first_some : {A : Type 0} → (ℕ → Option A) → ℕ → ℕ → Option A
first_some f zero k = None
first_some f (suc n) k = or_else (f k) (first_some f n (suc k))

-- silent moves, then one move on the label: `weak_step` where R is `tau_reaches M`
unfoldable pub weak_by : Machine → (ℕ → ℕ → Bool) → ℕ → ℕ → ℕ → Bool
weak_by M R p l q = some_below M.size (λ t. R p t && M.move t l q)

-- p comes to p' on the label l, and q on l to no state that S holds with p'
unfoldable pub move_fails : Machine → Machine → (ℕ → ℕ → Bool) → (ℕ → ℕ → Bool) → (ℕ → ℕ → Bool) → ℕ → ℕ → ℕ → ℕ → Bool
move_fails M N R U S p q l p' = weak_by M R p l p' && not (some_below N.size (λ q'. weak_by N U q l q' && S p' q'))

-- by label, then by state
unfoldable pub first_move_on : Machine → Machine → (ℕ → ℕ → Bool) → (ℕ → ℕ → Bool) → (ℕ → ℕ → Bool) → ℕ → ℕ → ℕ → Option (ℕ × ℕ)
first_move_on M N R U S p q l = first_some (λ p'. when (move_fails M N R U S p q l p') (l, p')) M.size 0

unfoldable pub first_move : Machine → Machine → (ℕ → ℕ → Bool) → (ℕ → ℕ → Bool) → (ℕ → ℕ → Bool) → ℕ → ℕ → Option (ℕ × ℕ)
first_move M N R U S p q = first_some (first_move_on M N R U S p q) 64 0

-- silent moves of q lead to v, which is stable and has no initials but those in the set
unfoldable pub rests_at : Machine → (ℕ → ℕ → Bool) → ℕ → (ℕ → Bool) → ℕ → Bool
rests_at N U q allowed v = U q v && (stable N v && each_below 64 (λ l. implies (initial N v l) (allowed l)))

-- some state passes the test, and the labels y are all initials of those that do
pub record AllInitials (N : Machine) (test : ℕ → Bool) (y : ℕ) : Type 0 where
  pub some : some_below N.size test ≡ true
  pub labels : (l : ℕ) → l < 64 → member y l ≡ some_below N.size (λ v. test v && initial N v l)

-- p' is ready on y, and silent moves of q lead to no state that covers it; 64 stands for no label
unfoldable pub rest_fails : Machine → Machine → (ℕ → ℕ → Bool) → ℕ → ℕ → ℕ → Bool
rest_fails M N U q p' y = implies (nat_lt y 64) (initial M p' y) && not (some_below N.size (λ q'. U q q' && covers M N p' y q'))

unfoldable pub rest_on : Machine → Machine → (ℕ → ℕ → Bool) → ℕ → ℕ → ℕ → Option (Option ℕ × ℕ)
rest_on M N U q p' l = when (rest_fails M N U q p' l) (Some l, p')

-- without a label, then by label
unfoldable pub first_rest_at : Machine → Machine → (ℕ → ℕ → Bool) → ℕ → ℕ → Option (Option ℕ × ℕ)
first_rest_at M N U q p' = or_else (when (rest_fails M N U q p' 64) (None, p')) (first_some (rest_on M N U q p') 64 0)

-- by the stable states that silent moves of p lead to
unfoldable pub rests_from : Machine → Machine → (ℕ → ℕ → Bool) → (ℕ → ℕ → Bool) → ℕ → ℕ → ℕ → Option (Option ℕ × ℕ)
rests_from M N R U p q p' = cond (R p p' && stable M p') (first_rest_at M N U q p') None

unfoldable pub first_rest : Machine → Machine → (ℕ → ℕ → Bool) → (ℕ → ℕ → Bool) → ℕ → ℕ → Option (Option ℕ × ℕ)
first_rest M N R U p q = first_some (rests_from M N R U p q) M.size 0

abbrev pub as_move : Option (ℕ × ℕ) → Option Counterexample
as_move None = None
as_move (Some c) = Some (Move c.0 c.1)

abbrev pub as_rest : Option (Option ℕ × ℕ) → Option Counterexample
as_rest None = None
as_rest (Some c) = Some (Rest c.0 c.1)

-- the first clause before the second
abbrev pub first_by : Machine → Machine → (ℕ → ℕ → Bool) → (ℕ → ℕ → Bool) → (ℕ → ℕ → Bool) → ℕ → ℕ → Option Counterexample
first_by M N R U S p q = or_else (as_move (first_move M N R U S p q)) (as_rest (first_rest M N R U p q))

unfoldable pub first_failing : Machine → Machine → (ℕ → ℕ → Bool) → ℕ → ℕ → Option Counterexample
first_failing M N S p q = first_by M N (tau_reaches M) (tau_reaches N) S p q

-- what is found of two states by their rows alone, against the pairs that stood before round k; 0 stands for their numbers, which nothing depends on
abbrev pub by_rows : {A : Type 0} → (Machine → Machine → (ℕ → ℕ → Bool) → (ℕ → ℕ → Bool) → (ℕ → ℕ → Bool) → ℕ → ℕ → A) → Machine → Machine → List ℕ → List ℕ → ℕ → List ℕ → A
by_rows found M N own other k ranks = found M N (row_reads own) (row_reads other) (stood_at k ranks (length other)) 0 0
