use Rattle.lts.proofs.Claimed.{context_claim}
use Rattle.lts.proofs.systems.conforms_in_context.Goals as goal

pub returns : goal.returns
returns g c = context_claim g.X.Context.layers g.C.Conforming.claim g.C.Conforming.holds
