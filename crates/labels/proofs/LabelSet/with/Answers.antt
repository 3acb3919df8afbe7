use Rattle.std.proofs.Common.{◌*◌, ◌%◌, ◌^◌, Bool, ◌||◌, ap, ◌∙◌}
use Rattle.lts.specs.Labels.{member}
use Rattle.labels.proofs.Bits.{member_or, member_one_shl}
use Rattle.labels.proofs.LabelSet.with.Goals as goal

pub returns-then-label-lt-TAU : goal.returns-then-label-lt-TAU
returns-then-label-lt-TAU c = λ a h.
    member_or c.args.self.0 ((1 * 2 ^ c.args.label) % 2 ^ 64) a
    ∙ ap (λ (b : Bool). member c.args.self.0 a || b) (member_one_shl 64 c.args.label a c.if-label-lt-TAU.true)
