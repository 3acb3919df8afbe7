use Rattle.std.proofs.Common.{rules}
use Rattle.house.proofs.Tables.{tables_count}
use Rattle.house.proofs.house.House.lacks.Goals as goal

pub returns : goal.returns
returns c = simp (tables_count c.args.self.now) (search rules)
