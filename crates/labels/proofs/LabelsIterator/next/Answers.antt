use Rattle.labels.proofs.Listed.{taken_first, takes_one}
use Rattle.labels.proofs.LabelsIterator.next.Goals as goal

pub returns : goal.returns
returns c =
    let r = c.take_lowest.result in
    let gives = taken_first c.args.self.now (record { left = c.take_lowest.new.self }) r c.take_lowest.ensures in
    record { steps = gives; goes = takes_one _ _ r gives }
