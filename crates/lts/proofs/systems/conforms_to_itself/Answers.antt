use Rattle.lts.proofs.Claimed.{reflexive_holds}
use Rattle.lts.proofs.systems.conforms_to_itself.Goals as goal

pub returns : goal.returns
returns g c = reflexive_holds g.S.System.system
