-- The worked cases, by computation.
use Rattle.std.proofs.Common.{refl}
use Rattle.lts.specs.Machines.{some_below, each_below, reach, tau_reaches, weak_step, initial}
use Rattle.lts.specs.Layers.{synced}
use Rattle.lts.specs.Conformance.{covers, passes, passes_moves, passes_refusals}
use Rattle.closure.specs.Sheets.{closure_sheet}
use Rattle.clauses.specs.Candidates.{
  first_some,
  weak_by,
  move_fails,
  first_move_on,
  first_move,
  rest_fails,
  rest_on,
  first_rest_at,
  rests_from,
  first_rest,
  first_failing,
}
use Rattle.ranks.specs.Rounds.{strikes_at, strike, ranks_after, strikes, last_from, last_round, final_ranks}
use Rattle.judge.specs.Verdicts.{zeros_below, answer}
use Rattle.judge.specs.Cases.{WorkedCases}

-- both sides compute to the same
pub worked_cases : WorkedCases
unfolding synced some_below each_below reach tau_reaches weak_step initial covers passes passes_moves passes_refusals closure_sheet first_some weak_by move_fails first_move_on first_move rest_fails rest_on first_rest_at rests_from first_rest first_failing strikes_at strike ranks_after strikes last_from last_round final_ranks zeros_below answer
worked_cases = record { answers = refl; bytes = refl; whole_verdict = refl; second_round = refl }
