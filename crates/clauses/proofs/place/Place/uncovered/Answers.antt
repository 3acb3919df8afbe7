use Rattle.std.proofs.Common.{◌∙◌, rules}
use borrow.Author.Tests.{tests}
use Rattle.std.proofs.lemmas.Bool.{lt-ltb}
use Rattle.dense.proofs.Tests.{implied}
use Rattle.clauses.specs.Ranks.{row_reads}
use Rattle.clauses.specs.Uncovered.{uncovered_by}
use Rattle.clauses.proofs.place.Place.uncovered.Goals as goal

pub returns : goal.returns
unfolding uncovered_by
returns g c = λ p h. c.of.ensures.by_test (uncovered_by (g.P.Source.means c.args.module.now) (g.Q.Source.means c.args.self.now.machine.now) (row_reads c.args.self.now.row.now) 0) (λ q b i l e. search (rules, tests)) p h ∙ implied _ _ (λ _. lt-ltb p 256 h)
