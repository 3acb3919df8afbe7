use Rattle.std.proofs.Common.{refl, ap, ◌∙◌, rules}
use borrow.Author.Tests.{tests}
use Rattle.clauses.specs.Candidates.{first_rest, as_rest}
use Rattle.clauses.proofs.Firsts.{mapped}
use Rattle.clauses.proofs.Searching.{found_below}
use Rattle.clauses.proofs.place.Place.failing_rest.Goals as goal

pub returns : goal.returns
unfolding first_rest
returns g c =
    mapped as_rest c.find_map.result c.map.result c.map.ensures.cases refl (λ x y p. search rules)
    ∙ ap as_rest (found_below (g.P.Source.means c.args.module.now.machine.now).size _ _ c.find_map.ensures.runs (cc) (λ x b q k. search (rules, tests)))
