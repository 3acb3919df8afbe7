use Rattle.lts.proofs.Claimed.{claimed}
use Rattle.lts.proofs.Order.{conforms_stuck}
use Rattle.lts.proofs.systems.stuck_only_where_promised.Goals as goal

pub returns : goal.returns
returns g c =
    let k = g.C.Conforming.claim in
    conforms_stuck k.actual k.promised (claimed k g.C.Conforming.holds)
