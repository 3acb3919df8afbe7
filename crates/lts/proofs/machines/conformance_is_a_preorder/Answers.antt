use Rattle.lts.proofs.Lawful.{reflexive, transitive}
use Rattle.lts.proofs.machines.conformance_is_a_preorder.Goals as goal

pub returns : goal.returns
returns c = record { itself = reflexive; chain = transitive }
