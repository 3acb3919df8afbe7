use Rattle.std.proofs.Common.{refl, rules, arith}
use Rattle.std.proofs.lemmas.Iterator.{YieldsList-from_range}
use Rattle.std.proofs.lemmas.Iterator.Consumers.{YieldsList-from_filter_map}
use Rattle.lts.specs.Labels.{member}
use Rattle.source.specs.Masks.{initials_mask}
use Rattle.clauses.specs.Ranks.{row_reads}
use Rattle.clauses.specs.Candidates.{rests_at}
use Rattle.clauses.proofs.Gathering.{given, gathered, found_given}
use Rattle.clauses.proofs.place.Place.rests.Goals as goal

pub returns : goal.returns
returns g c =
    let N = g.Q.Source.means c.args.self.now.machine.now in
    let test = rests_at N (row_reads c.args.self.now.row.now) 0 (member c.args.allowed.0) in
    gathered _ N test c.reduce.result c.reduce.ensures.ran
    (YieldsList-from_filter_map _ (given test (initials_mask N)) (YieldsList-from_range 0 N.size N.size (cc) (omega arith)) c.filter_map.ensures.closure
    (λ v r q k. (search rules, found_given test (initials_mask N) v r (search rules))))
    refl (λ a b u q k. search rules)
