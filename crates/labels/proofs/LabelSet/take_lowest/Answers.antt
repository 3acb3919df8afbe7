use Rattle.labels.proofs.Taking.{take_member}
use Rattle.labels.proofs.LabelSet.take_lowest.Goals as goal

pub returns : goal.returns
returns c = take_member c.args.self.now.0 c.in_ok-label.label c.in_ok-label.ensures
