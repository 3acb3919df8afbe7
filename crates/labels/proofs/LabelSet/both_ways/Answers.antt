use Rattle.std.proofs.Common.{◌≡◌, ℕ, ◌+◌, ◌/◌, ◌^◌, Bool, ◌&&◌, ap, ◌∙◌, arith}
use Rattle.lts.specs.Labels.{member}
use Rattle.labels.proofs.Bits.{member_and, member_shr}
use Rattle.labels.proofs.LabelSet.both_ways.Goals as goal

pub returns : goal.returns
returns c = λ a _.
    let x = c.args.self.0 in
    let z : 32 + a ≡ a + 32 = omega arith in
    member_and x (x / 2 ^ 32) a ∙ ap (λ (b : Bool). member x a && b) (member_shr x 32 a ∙ ap (λ (k : ℕ). member x k) z)
