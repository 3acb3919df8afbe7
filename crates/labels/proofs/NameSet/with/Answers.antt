use Rattle.std.proofs.Common.{◌*◌, ◌%◌, ◌^◌, Bool, ◌||◌, ap, ◌∙◌, arith}
use Rattle.lts.specs.Labels.{member}
use Rattle.labels.proofs.Bits.{member_or, member_one_shl}
use Rattle.labels.proofs.NameSet.with.Goals as goal

pub returns : goal.returns
returns c = λ a h.
    member_or c.args.self.0 ((1 * 2 ^ c.args.name) % 2 ^ 32) a
    ∙ ap (λ (b : Bool). member c.args.self.0 a || b) (member_one_shl 32 c.args.name a (omega arith))
