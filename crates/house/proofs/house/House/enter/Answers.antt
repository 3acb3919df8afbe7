use Rattle.std.proofs.Common.{arith}
use Rattle.std.proofs.lemmas.Grind.{common_steps}
use Rattle.calls.specs.Calls.{enter}
use Rattle.house.specs.Means.{means}
use Rattle.calls.proofs.Taking.{goes_on}
use Rattle.house.proofs.house.House.enter.Goals as goal

pub returns-in_err-found-clause-history : goal.returns-in_err-found-clause-history
returns-in_err-found-clause-history c = goes_on (means c.args.self.now) (enter c.args.text.now) (means c.args.self.now) (grind (arith, common_steps))

pub returns-clause-history : goal.returns-clause-history
returns-clause-history c = goes_on (means c.args.self.now) (enter c.args.text.now) (means c.keep.new.self) (grind (arith, common_steps))
