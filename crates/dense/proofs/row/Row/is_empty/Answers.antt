use Rattle.std.proofs.Common.{◌∙◌, arith}
use Rattle.std.proofs.lemmas.Bool.{ne_eqb}
use Rattle.dense.proofs.Halves.{empty_is, full_is}
use Rattle.dense.proofs.row.Row.is_empty.Goals as goal

pub returns-then-self-eq0 : goal.returns-then-self-eq0
returns-then-self-eq0 c = empty_is c.args.self (omega arith) (omega arith) c.if-self-eq0.true

pub returns-else-self-eq0 : goal.returns-else-self-eq0
returns-else-self-eq0 c = ne_eqb c.args.self.low 0 c.if-self-eq0.false ∙ full_is c.args.self (omega arith) (omega arith) c.if-self-eq0.false
