use Rattle.house.proofs.Lawful.{house_keeps}
use Rattle.house.proofs.house.House.stuck_only_where_contracts_can.Goals as goal

pub returns : goal.returns
returns g c = house_keeps g.E.System.system c.args.self.now
