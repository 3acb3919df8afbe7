use Rattle.std.proofs.Common.{◌-◌, Bool, ◌&&◌, sym, ap, ◌∙◌}
use lib.Bits.{bit_and}
use Rattle.lts.specs.Labels.{member}
use Rattle.labels.proofs.Bits.{member_and}
use Rattle.dense.specs.Rows.{in_row}
use Rattle.dense.proofs.Halves.{low_half, high_half, halves}
use Rattle.dense.proofs.row.Row.both.Goals as goal

pub returns : goal.returns
returns c = λ q.
    let a = c.args.self in
    let b = c.args.other in
    halves (record { low = bit_and a.low b.low; high = bit_and a.high b.high }) (λ q. in_row a q && in_row b q) q
    (λ h. member_and a.low b.low q ∙ ap (λ (x : Bool). x && member b.low q) (sym (low_half a q h)) ∙ ap (λ (x : Bool). in_row a q && x) (sym (low_half b q h)))
    (λ h. member_and a.high b.high (q - 128) ∙ ap (λ (x : Bool). x && member b.high (q - 128)) (sym (high_half a q h)) ∙ ap (λ (x : Bool). in_row a q && x) (sym (high_half b q h)))
