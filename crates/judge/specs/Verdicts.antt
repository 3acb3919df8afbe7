-- What the judge answers.
use Rattle.std.specs.Prelude.{◌≡◌, ℕ, zero, suc, ◌+◌, ◌*◌, cond, List, Some, None, Option, Result, ◌==◌, slice_index}
use Rattle.lts.specs.Machines.{Machine, Fits}
use Rattle.source.specs.declared.refusal.Refusal.{Refusal}
use Rattle.clauses.specs.Candidates.{first_failing}
use Rattle.clauses.specs.Workspaces.{pairs, Prepared}
use Rattle.clauses.specs.declared.counterexample.Counterexample.{Counterexample}
use Rattle.ranks.specs.Rounds.{stands, ranks_after, last_round, final_ranks, ranks_in}
use Rattle.ranks.specs.Filled.{unless_refused}
use Rattle.judge.specs.declared.verdict.Verdict.{Verdict}
use Rattle.judge.specs.declared.verdict.Answer.{Answer}
use Rattle.judge.specs.declared.verdict.Answer.TheVariants.{Yes, No}

-- how many of the first n are 0
unfoldable pub zeros_below : ℕ → (ℕ → ℕ) → ℕ
zeros_below zero f = 0
zeros_below (suc n) f = cond (f n == 0) 1 0 + zeros_below n f

-- the rank of the pair of the starts
abbrev pub start_rank : Machine → Machine → ℕ
start_rank M N = slice_index (final_ranks M N) (M.start * N.size + N.start)

-- a pair that is struck has a candidate that fails
abbrev pub no_by : ℕ → Option Counterexample → Answer
no_by round None = Yes
no_by round (Some c) = No round c

-- yes for a pair that stands; else no, with the first candidate that fails against the pairs standing before the round
abbrev pub answer_by : Machine → Machine → ℕ → Answer
answer_by M N zero = Yes
answer_by M N (suc k) = no_by (suc k) (first_failing M N (stands N (ranks_after M N k)) M.start N.start)

unfoldable pub answer : Machine → Machine → Answer
answer M N = answer_by M N (start_rank M N)

abbrev pub verdict : Machine → Machine → Verdict
verdict M N = record {
  states = M.size;
  others = N.size;
  highest = last_round M N;
  standing = zeros_below (pairs M N) (λ i. slice_index (final_ranks M N) i);
  answer = answer M N;
}

abbrev pub judged : Machine → Machine → ℕ → Result Verdict Refusal
judged M N room = unless_refused M N room (verdict M N)

-- a workspace that holds the closures and the final ranks
pub record Holding (M N : Machine) (w : List ℕ) : Type 0 where
  pub some : Fits M
  pub more : Fits N
  pub ready : Prepared M N w
  pub ranks : ranks_in M N w ≡ final_ranks M N
