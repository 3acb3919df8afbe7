use Rattle.std.proofs.Common.{rules}
use borrow.Author.Tests.{tests}
use Rattle.clauses.specs.Candidates.{move_fails, first_move_on}
use Rattle.clauses.proofs.Searching.{found_below}
use Rattle.clauses.proofs.pair.Pair.failing_on.Goals as goal

pub returns : goal.returns
unfolding first_move_on move_fails
returns g c = found_below (g.P.Source.means c.args.self.now.module.machine.now).size _ _ c.find_map.ensures.runs (cc) (λ x b q k. search (rules, tests))
