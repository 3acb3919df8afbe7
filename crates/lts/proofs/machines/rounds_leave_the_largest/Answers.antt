use Rattle.lts.proofs.Lawful.{rounds_leave_the_largest}
use Rattle.lts.proofs.machines.rounds_leave_the_largest.Goals as goal

pub returns : goal.returns
returns c = rounds_leave_the_largest
