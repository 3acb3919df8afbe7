use Rattle.std.proofs.Common.{length, rules}
use Rattle.clauses.specs.Ranks.{stood_at}
use Rattle.clauses.proofs.pair.Pair.stood_row.Goals as goal

pub returns : goal.returns
returns g c = c.of.ensures.by_test (stood_at c.args.self.now.round c.args.self.now.ranks.now (length c.args.self.now.contract.row.now) c.args.p) (λ v b k l e. search rules)
