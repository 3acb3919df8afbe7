use Rattle.std.proofs.Common.{rules}
use Rattle.calls.specs.Calls.{seat}
use Rattle.house.specs.Means.{means}
use Rattle.calls.proofs.Taking.{goes_on}
use Rattle.house.proofs.house.House.seat.Goals as goal

pub returns-in_err-may_seat-clause-history : goal.returns-in_err-may_seat-clause-history
returns-in_err-may_seat-clause-history c = goes_on (means c.args.self.now) (seat c.args.s c.args.c) (means c.args.self.now) (search rules)

pub returns-clause-history : goal.returns-clause-history
returns-clause-history c = goes_on (means c.args.self.now) (seat c.args.s c.args.c) (means c.put.new.self) (search rules)
