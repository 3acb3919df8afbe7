use Rattle.std.proofs.Common.{arith}
use Rattle.std.proofs.lemmas.Grind.{common_steps}
use Rattle.dense.proofs.row.Row.of.Goals as goal
use Rattle.dense.proofs.row.Row.of.Goals.{then-f, else-f}

pub loop-state-preserved : goal.loop-state-preserved
loop-state-preserved g c = elim c.if-f.branch [
  | then-f w ↦ grind (arith, common_steps)
  | else-f w ↦ grind (arith, common_steps)
]
