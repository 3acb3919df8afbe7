use Rattle.std.proofs.Common.{◌<◌, arith, rules}
use Rattle.dense.specs.Rows.{none}
use Rattle.ranks.proofs.sides.Sides.uncovered_rows.Goals as goal

pub returns : goal.returns
returns c = λ q p h k.
    let i : q < c.args.self.now.contract.size = omega (arith, c.args.self.now.contract.sized) in
    let call = c.by_state.ensures q none i in
    search rules
