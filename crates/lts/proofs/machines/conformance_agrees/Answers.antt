use Rattle.lts.proofs.Lawful.{shows_conformance, tested_conformance}
use Rattle.lts.proofs.machines.conformance_agrees.Goals as goal

pub returns : goal.returns
returns g c = record { shown = shows_conformance g.R.Relation.holds; tested = tested_conformance }
