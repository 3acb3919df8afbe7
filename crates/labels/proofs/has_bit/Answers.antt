use Rattle.std.proofs.Common.{sym, ◌∙◌, arith}
use Rattle.std.proofs.lemmas.Bool.{le-ltb}
use Rattle.labels.proofs.Bits.{member_above}
use Rattle.labels.proofs.has_bit.Goals as goal

pub returns-else-k-lt-TAU : goal.returns-else-k-lt-TAU
returns-else-k-lt-TAU c = le-ltb c.args.k 64 (omega arith) ∙ sym (member_above c.args.bits 64 c.args.k (omega arith) (omega arith))
