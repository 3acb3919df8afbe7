use Rattle.std.proofs.Common.{get_or, ◌∙◌, rules}
use borrow.Author.Tests.{tests}
use Rattle.dense.specs.Copies.{meaning}
use Rattle.clauses.specs.Ranks.{rank_in}
use Rattle.clauses.specs.Workspaces.{pairs}
use Rattle.ranks.specs.Rounds.{final_ranks}
use Rattle.judge.proofs.Held.{read_rank}
use Rattle.judge.proofs.Zeros.{zeros_counted, zeros_same}
use Rattle.judge.proofs.judging.Filled.standing.Goals as goal

pub returns : goal.returns
returns c =
    let self = c.args.self.now in
    let M = meaning self.module.now in
    let N = meaning self.contract.now in
    let ranks = c.ranks-ranks.result.now in
    zeros_counted (pairs M N) (rank_in ranks) c.count.result c.count.ensures.runs c.filter.ensures.runs (cc) (λ x b q k. search (rules, tests))
    ∙ zeros_same (pairs M N) (rank_in ranks) (λ i. get_or (final_ranks M N) i 0) (λ i b. read_rank M N self.workspace.now self.holding ranks i c.ranks-ranks.ensures b)
