use Rattle.std.proofs.Common.{sym, arith}
use Rattle.std.proofs.lemmas.Bool.{eqb-false}
use Rattle.labels.proofs.Taking.{lowest_member}
use Rattle.labels.proofs.LabelSet.lowest.Goals as goal

pub returns-else-is_empty : goal.returns-else-is_empty
returns-else-is_empty c = lowest_member c.args.self.0 (omega arith) (eqb-false c.args.self.0 0 (sym c.if-is_empty.ensures))
