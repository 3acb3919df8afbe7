-- The worked cases, by computation.
use Rattle.std.proofs.Common.{refl}
use Rattle.lts.specs.Machines.{some_below, each_below, reach, tau_reaches, weak_step, initial}
use Rattle.closure.specs.Sheets.{closure_sheet}
use Rattle.lts.specs.Conformance.{covers, passes, passes_moves, passes_refusals}
use Rattle.clauses.specs.Candidates.{
  first_some,
  weak_by,
  move_fails,
  first_move_on,
  first_move,
  rest_fails,
  rest_on,
  first_rest_at,
  rests_from,
  first_rest,
  first_failing,
}
use Rattle.ranks.specs.Rounds.{strikes_at, strike, ranks_after, strikes, last_from, last_round, final_ranks}
use Rattle.search.proofs.Worked.{sends_alone, sends_never}
use Rattle.judge.specs.Verdicts.{zeros_below, answer}
use Rattle.judge.proofs.Computed.{worked_cases as worked_verdicts}
use Rattle.installer.specs.Cases.{WorkedCases}
use Rattle.installer.specs.Figures.{digits, figure}
use Rattle.installer.specs.Inputs.{gap_from}

-- both sides compute to the same
pub worked_cases : WorkedCases
unfolding digits figure gap_from some_below each_below reach tau_reaches weak_step initial covers passes passes_moves passes_refusals closure_sheet first_some weak_by move_fails first_move_on first_move rest_fails rest_on first_rest_at rests_from first_rest first_failing strikes_at strike ranks_after strikes last_from last_round final_ranks zeros_below answer
worked_cases = record { verdicts = worked_verdicts; stuck_alone = sends_alone; never_stuck = sends_never; no_line = refl; yes_line = refl }
