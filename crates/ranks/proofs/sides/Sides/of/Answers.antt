use Rattle.std.proofs.Common.{arith, rules}
use Rattle.ranks.specs.Steps.{no_labels}
use Rattle.ranks.proofs.sides.Sides.of.Goals as goal

pub invariant_of-result : goal.invariant_of-result
invariant_of-result c = record {
  arrives = λ p l h k.
      let s = c.args.«module» in
      let e = s.sized in
      let call = c.by_state-arriving.ensures p no_labels (omega arith) in
      search rules;
}
