-- The board of pairs between two machines.
use Rattle.std.specs.Prelude.{◌≡◌, ℕ, ◌<◌, Bool, true, false, ◌&&◌, List}
use Rattle.lts.specs.Machines.{Machine}
use Rattle.lts.specs.Conformance.{passes_refusals}
use Rattle.dense.specs.Copies.{meaning}
use Rattle.dense.specs.Rows.{in_row}
use Rattle.ranks.specs.Rounds.{stands, ranks_of}
use Rattle.ranks.specs.Steps.{in_rows, answered, all_answered}
use Rattle.ranks.specs.declared.board.Board.{Board}
use Rattle.ranks.specs.declared.sides.Sides.{Sides}

-- the machines that the sides hold
abbrev pub module_of : Sides → Machine
module_of s = meaning s.«module».machine.now

abbrev pub contract_of : Sides → Machine
contract_of s = meaning s.contract.machine.now

-- before a round: the pairs that stand, those of them that pass the second clause, and the states that lost pairs in the round before.
-- Only on moves to those can a standing pair fail now
pub record BeforeRound (M N : Machine) (ranks : List ℕ) (b : Board) : Type 0 where
  pub stand : (p q : ℕ) → p < M.size → q < N.size → in_rows b.stands p q ≡ stands N ranks p q
  pub cover : (p q : ℕ) → p < M.size → q < N.size → in_rows b.next p q ≡ (in_rows b.stands p q && passes_refusals M N p q)
  pub settled : (p q p' : ℕ) → p < M.size → q < N.size → p' < M.size → in_rows b.stands p q ≡ true → in_row b.changed p' ≡ false →
      all_answered M N (in_rows b.stands) p q p' ≡ true

-- of the pairs that stand next only those are left that pass the test, and nothing else changed
pub record Narrowed (M N : Machine) (test : ℕ → ℕ → Bool) (was b : Board) : Type 0 where
  pub next : (p q : ℕ) → p < M.size → q < N.size → in_rows b.next p q ≡ (in_rows was.next p q && test p q)
  pub stands : b.stands ≡ was.stands
  pub changed : b.changed ≡ was.changed

-- the same of what the sides and the board hold: whether, if p weak-steps on the label to p', so does q to some state that stands with p'
abbrev pub answers : Sides → Board → ℕ → ℕ → ℕ → ℕ → Bool
answers s b p q p' l = answered (module_of s) (contract_of s) (in_rows b.stands) p q p' l

abbrev pub answers_all : Sides → Board → ℕ → ℕ → ℕ → Bool
answers_all s b p q p' = all_answered (module_of s) (contract_of s) (in_rows b.stands) p q p'

abbrev pub Leaves : Sides → (ℕ → ℕ → Bool) → Board → Board → Type 0
Leaves s test was b = Narrowed (module_of s) (contract_of s) test was b

abbrev pub ranks_held : Sides → List ℕ → List ℕ
ranks_held s bytes = ranks_of (module_of s) (contract_of s) bytes

abbrev pub ReadyFor : Sides → List ℕ → Board → Type 0
ReadyFor s bytes b = BeforeRound (module_of s) (contract_of s) (ranks_held s bytes) b
