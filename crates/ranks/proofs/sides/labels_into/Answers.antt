use Rattle.std.proofs.Common.{rules}
use Rattle.ranks.proofs.sides.labels_into.Goals as goal

pub returns : goal.returns
returns c = λ l h. let call = c.of.ensures l h in search rules
