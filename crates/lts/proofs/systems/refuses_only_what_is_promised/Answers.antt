use Rattle.lts.proofs.Claimed.{from_clauses}
use Rattle.lts.proofs.systems.refuses_only_what_is_promised.Goals as goal

pub returns : goal.returns
returns g c p q r y =
    let k = g.C.Conforming.claim in
    (from_clauses k.actual k.promised k.by g.C.Conforming.holds).refusals p q r g.X.Labels.labels y
