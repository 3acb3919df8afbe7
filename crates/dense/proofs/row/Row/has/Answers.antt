use Rattle.std.proofs.Common.{◌-◌, sym, ◌∙◌, arith}
use Rattle.std.proofs.lemmas.Bool.{le-ltb}
use Rattle.labels.proofs.Bits.{member_above}
use Rattle.dense.proofs.Halves.{high_half}
use Rattle.dense.proofs.row.Row.has.Goals as goal

pub returns-else-state : goal.returns-else-state
returns-else-state c =
    le-ltb c.args.state 256 (omega arith)
    ∙ sym (high_half c.args.self c.args.state (omega arith) ∙ member_above c.args.self.high 128 (c.args.state - 128) (omega arith) (omega arith))
