use Rattle.lts.proofs.Claimed.{composed_holds}
use Rattle.lts.proofs.systems.conforms_along_a_chain.Goals as goal

pub returns : goal.returns
returns g c = composed_holds g.C.Chained.chain g.C.Chained.holds
