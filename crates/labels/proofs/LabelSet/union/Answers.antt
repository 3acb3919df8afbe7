use Rattle.labels.proofs.Bits.{member_or}
use Rattle.labels.proofs.LabelSet.union.Goals as goal

pub returns : goal.returns
returns c = λ a. member_or c.args.self.0 c.args.other.0 a
