use Rattle.std.proofs.Common.{arith}
use Rattle.labels.proofs.Directions.{member_meeting}
use Rattle.labels.proofs.LabelSet.meeting.Goals as goal

pub returns : goal.returns
returns c = λ a h. member_meeting c.args.self.0 c.args.other.0 c.rotate_left.result a (omega arith) c.rotate_left.ensures h
