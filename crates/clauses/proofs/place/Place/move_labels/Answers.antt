use Rattle.std.proofs.Common.{ℕ, Bool, rules, arith}
use borrow.Author.Tests.{tests}
use Rattle.std.specs.List.{range_with_len}
use Rattle.std.proofs.lemmas.Iterator.{YieldsList-from_range, YieldsList-from_map}
use Rattle.std.proofs.lemmas.Iterator.Consumers.{YieldsList-at, YieldsList-from_filter}
use Rattle.source.specs.Masks.{initials_mask}
use Rattle.clauses.specs.Ranks.{row_reads}
use Rattle.clauses.proofs.Gathering.{united, map_given}
use Rattle.clauses.proofs.place.Place.move_labels.Goals as goal

pub returns : goal.returns
returns g c =
    let M = g.S.Source.means c.args.self.now.machine.now in
    let test : ℕ → Bool = row_reads c.args.self.now.row.now 0 in
    united _ M test c.empty.result c.fold.result c.fold.ensures.ran
    (YieldsList-from_map _ (λ v. record { 0 = initials_mask M v })
    (YieldsList-at c.map.ensures.source (YieldsList-from_filter _ test (YieldsList-from_range 0 M.size M.size (cc) (omega arith)) c.filter.ensures.closure (λ x b q k. search (rules, tests))))
    c.map.ensures.closure (λ x r q k. search rules))
    (map_given test (initials_mask M) (range_with_len 0 M.size))
    c.empty.ensures
    (λ a b u q k. search rules)
