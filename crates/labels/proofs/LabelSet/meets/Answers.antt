use Rattle.std.proofs.Common.{not, ◌&&◌, ap, ◌∙◌, arith}
use Rattle.lts.specs.Labels.{member, complement}
use Rattle.labels.proofs.Taking.{some_label, some_alike}
use Rattle.labels.proofs.LabelSet.meets.Goals as goal

pub returns : goal.returns
returns c =
    let both = c.meeting.result.0 in
    ap not c.is_empty.ensures
    ∙ some_label both (omega arith)
    ∙ some_alike (member both) (λ k. member c.args.self.0 k && member c.args.other.0 (complement k)) c.meeting.ensures
