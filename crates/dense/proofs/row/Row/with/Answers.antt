use Rattle.std.proofs.Common.{◌≡◌, ℕ, ◌-◌, ◌*◌, ◌%◌, ◌^◌, Bool, ◌||◌, eqb, sym, ap, ◌∙◌, arith}
use lib.Bits.{bit_or}
use Rattle.std.proofs.lemmas.Bool.{ne_eqb}
use Rattle.lts.specs.Labels.{member}
use Rattle.labels.proofs.Bits.{or_false, member_or, member_one_shl}
use Rattle.dense.specs.declared.row.Row.{Row}
use Rattle.dense.specs.Rows.{in_row}
use Rattle.dense.proofs.Halves.{low_half, high_half, halves, shifted}
use Rattle.dense.proofs.row.Row.with.Goals as goal

-- a state of the other half adds nothing here
apart : (r : Row) (s q : ℕ) → (s ≡ q → ⊥) → in_row r q ≡ (in_row r q || eqb s q)
apart r s q d = sym (ap (λ (b : Bool). in_row r q || b) (ne_eqb s q d) ∙ or_false (in_row r q))

pub returns-then-state-lt-HALF : goal.returns-then-state-lt-HALF
returns-then-state-lt-HALF c = λ q _.
    let r = c.args.self in
    let s = c.args.state in
    halves (record { low = bit_or r.low ((1 * 2 ^ s) % 2 ^ 128); high = r.high }) (λ q. in_row r q || eqb s q) q
    (λ h. member_or r.low ((1 * 2 ^ s) % 2 ^ 128) q ∙ ap (λ (b : Bool). member r.low q || b) (member_one_shl 128 s q c.if-state-lt-HALF.true) ∙ ap (λ (b : Bool). b || eqb s q) (sym (low_half r q h)))
    (λ h. sym (high_half r q h) ∙ apart r s q (λ e. omega arith))

pub returns-then-state : goal.returns-then-state
returns-then-state c = λ q _.
    let r = c.args.self in
    let s = c.args.state in
    halves (record { low = r.low; high = bit_or r.high ((1 * 2 ^ (s - 128)) % 2 ^ 128) }) (λ q. in_row r q || eqb s q) q
    (λ h. sym (low_half r q h) ∙ apart r s q (λ e. omega arith))
    (λ h. member_or r.high ((1 * 2 ^ (s - 128)) % 2 ^ 128) (q - 128) ∙ ap (λ (b : Bool). member r.high (q - 128) || b) (member_one_shl 128 (s - 128) (q - 128) (omega arith) ∙ shifted s q (omega arith) h) ∙ ap (λ (b : Bool). b || eqb s q) (sym (high_half r q h)))
