use Rattle.lts.proofs.Rows.{row_stuck_only_if}
use Rattle.lts.proofs.systems.row_stuck_only_where_promised.Goals as goal

pub returns : goal.returns
returns g c = row_stuck_only_if g.E.System.system g.R.Replaced.replaced
