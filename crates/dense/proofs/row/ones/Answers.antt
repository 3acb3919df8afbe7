use Rattle.std.proofs.Common.{◌≡◌, ℕ, ◌-◌, ◌^◌, ◌<◌, ◌≤◌, true, not, ltb, sym, ap, ◌∙◌, ⊎_elim, arith}
use Rattle.std.proofs.lemmas.Nat.{one_shl, pow_pos}
use Rattle.std.proofs.lemmas.Bool.{lt-ltb, le-ltb, cases_lt}
use Rattle.lts.specs.Labels.{member}
use Rattle.labels.proofs.Bits.{member_rest, member_none, member_above}
use Rattle.dense.proofs.row.ones.Goals as goal

-- the lowest n bits
all_low : (n k : ℕ) → k < n → member (2 ^ n - 1) k ≡ true
all_low n k h = let e : 2 ^ n - 1 ≡ 2 ^ n - 1 - 0 = omega arith in ap (λ (y : ℕ). member y k) e ∙ member_rest n 0 k (pow_pos n) h ∙ ap not (member_none k)

low_bits : (n k : ℕ) → member (2 ^ n - 1) k ≡ ltb k n
low_bits n k = ⊎_elim
    (λ (h : k < n). all_low n k h ∙ sym (lt-ltb k n h))
    (λ (h : n ≤ k). member_above (2 ^ n - 1) n k (let p = pow_pos n in omega arith) h ∙ sym (le-ltb k n h))
    (cases_lt k n)

pub returns-then-n-lt-HALF : goal.returns-then-n-lt-HALF
returns-then-n-lt-HALF c = λ k _.
    ap (λ (y : ℕ). member (y - 1) k) (one_shl c.args.n 128 c.if-n-lt-HALF.true) ∙ low_bits c.args.n k

pub returns-else-n-lt-HALF : goal.returns-else-n-lt-HALF
returns-else-n-lt-HALF c = λ k h. all_low 128 k h ∙ sym (lt-ltb k c.args.n (omega arith))
