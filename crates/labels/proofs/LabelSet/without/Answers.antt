use Rattle.std.proofs.Common.{arith}
use Rattle.labels.proofs.Directions.{member_without}
use Rattle.labels.proofs.LabelSet.without.Goals as goal

pub returns : goal.returns
returns c = λ a h. member_without c.args.self.0 c.args.names.0 a (omega arith) h
