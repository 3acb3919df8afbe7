use Rattle.std.proofs.Common.{◌≡◌, ◌+◌, true, drop}
use Rattle.installer.specs.Inputs.{gap_from}
use Rattle.installer.proofs.inputs.empty_line.Given as goal

abbrev pub invariant-loop-at : goal.invariant-loop-at
invariant-loop-at l = gap_from true l.input ≡ l.at + gap_from l.fresh (drop l.at l.input)
