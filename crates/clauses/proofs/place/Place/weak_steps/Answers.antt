use Rattle.std.proofs.Common.{rules}
use borrow.Author.Tests.{tests}
use Rattle.clauses.specs.Candidates.{weak_by}
use Rattle.clauses.proofs.Somes.{any_below}
use Rattle.clauses.proofs.place.Place.weak_steps.Goals as goal

pub returns : goal.returns
unfolding weak_by
returns g c = any_below (g.S.Source.means c.args.self.now.machine.now).size _ _ _ _ c.any.ensures.ran (cc) (λ x b q k. search (rules, tests))
