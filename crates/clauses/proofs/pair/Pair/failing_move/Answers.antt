use Rattle.std.proofs.Common.{length, sym, refl, ap, ◌∙◌, rules}
use borrow.Author.Tests.{tests}
use Rattle.dense.specs.Copies.{meaning}
use Rattle.clauses.specs.Ranks.{row_reads, stood_at}
use Rattle.clauses.specs.Candidates.{first_move_on, first_move, as_move}
use Rattle.clauses.proofs.Firsts.{mapped}
use Rattle.clauses.proofs.Searching.{found_label}
use Rattle.clauses.proofs.Unmoved.{no_label}
use Rattle.clauses.proofs.pair.Pair.failing_move.Goals as goal

pub returns : goal.returns
unfolding first_move
returns g c =
    let own = c.args.self.now.module in
    let other = c.args.self.now.contract in
    let M = g.P.Source.means own.machine.now in
    let N = meaning other.machine.now in
    let S = stood_at c.args.self.now.round c.args.self.now.ranks.now (length other.row.now) in
    let f = first_move_on M N (row_reads own.row.now) (row_reads other.row.now) S 0 0 in
    mapped as_move c.find_map.result c.map.result c.map.ensures.cases refl (λ x y p. search rules)
    ∙ ap as_move (found_label c.move_labels.result.0 f f _ c.find_map.ensures.runs (ap (λ l. l.0) c.iter.ensures) (λ l b q k. search (rules, tests)) (λ _ _ _. refl)
    (λ l h z. no_label M N (row_reads own.row.now) (row_reads other.row.now) S 0 0 l (g.P.Source.sound own.machine.now) (sym (c.move_labels.ensures l h) ∙ z)))
