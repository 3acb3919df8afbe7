use Rattle.lts.proofs.Lawful.{contexts_keep_conformance}
use Rattle.lts.proofs.machines.contexts_keep_conformance.Goals as goal

pub returns : goal.returns
returns c = contexts_keep_conformance
