use Rattle.std.proofs.Common.{◌≡◌, ℕ, ◌-◌, ◌^◌, ◌<◌, Bool, not, ◌&&◌, sym, ap, ◌∙◌, arith}
use lib.Bits.{bit_and}
use Rattle.lts.specs.Labels.{member}
use Rattle.labels.proofs.Bits.{member_and, member_rest}
use Rattle.dense.specs.Rows.{in_row}
use Rattle.dense.proofs.Halves.{low_half, high_half, halves}
use Rattle.dense.proofs.row.Row.without.Goals as goal

-- one half
less : (x y k : ℕ) → y < 2 ^ 128 → k < 128 → member (bit_and x (2 ^ 128 - 1 - y)) k ≡ (member x k && not (member y k))
less x y k f h = member_and x (2 ^ 128 - 1 - y) k ∙ ap (λ (b : Bool). member x k && b) (member_rest 128 y k f h)

pub returns : goal.returns
returns c = λ q l.
    let a = c.args.self in
    let b = c.args.other in
    halves (record { low = bit_and a.low (2 ^ 128 - 1 - b.low); high = bit_and a.high (2 ^ 128 - 1 - b.high) }) (λ q. in_row a q && not (in_row b q)) q
    (λ h. less a.low b.low q (omega arith) h ∙ ap (λ (x : Bool). x && not (member b.low q)) (sym (low_half a q h)) ∙ ap (λ (x : Bool). in_row a q && not x) (sym (low_half b q h)))
    (λ h. less a.high b.high (q - 128) (omega arith) (omega arith) ∙ ap (λ (x : Bool). x && not (member b.high (q - 128))) (sym (high_half a q h)) ∙ ap (λ (x : Bool). in_row a q && not x) (sym (high_half b q h)))
