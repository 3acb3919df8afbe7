use Rattle.std.proofs.Common.{rules}
use Rattle.calls.specs.Calls.{unfit}
use Rattle.house.specs.Means.{means}
use Rattle.calls.proofs.Taking.{goes_on}
use Rattle.house.proofs.house.House.unfit.Goals as goal

pub returns-in_err-c-clause-history : goal.returns-in_err-c-clause-history
returns-in_err-c-clause-history c = goes_on (means c.args.self.now) (unfit c.args.s) (means c.args.self.now) (search rules)

pub returns-clause-history : goal.returns-clause-history
returns-clause-history c = goes_on (means c.args.self.now) (unfit c.args.s) (means c.put.new.self) (search rules)
