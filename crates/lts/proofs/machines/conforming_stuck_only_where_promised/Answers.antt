use Rattle.lts.proofs.Lawful.{conforming_stuck}
use Rattle.lts.proofs.machines.conforming_stuck_only_where_promised.Goals as goal

pub returns : goal.returns
returns c = conforming_stuck
