use Rattle.std.proofs.Common.{◌≡◌, ℕ, false, ltb, sym, ◌∙◌, arith}
use Rattle.std.proofs.lemmas.Bool.{ltb-true}
use Rattle.std.proofs.lemmas.Bool.Decides.{nat_tests}
use Rattle.dense.specs.Copies.{meaning}
use Rattle.dense.specs.Sounds.{meaning_sound}
use Rattle.clauses.proofs.Firsts.{kept}
use Rattle.judge.proofs.Held.{read_start}
use Rattle.judge.proofs.judging.Filled.round.Goals as goal

few : (r : ℕ) → ltb 0 r ≡ false → r ≡ 0
few r e = grind (arith, nat_tests)

pub returns : goal.returns
returns c =
    let self = c.args.self.now in
    let start = c.rank-rank.ensures ∙ read_start (meaning self.module.now) (meaning self.contract.now) (meaning_sound self.module.now) (meaning_sound self.contract.now) self.workspace.now self.holding
    c.ranks.result.now c.sizes-m.result.1 c.start.result c.start-2.result c.ranks.ensures c.sizes-m.ensures.1 c.start.ensures c.start-2.ensures in
    kept _ _ c.rank-rank.result c.then_some.result c.then_some.ensures (λ e. sym start ∙ few c.rank-rank.result e) (λ e. (start, ltb-true 0 c.rank-rank.result e))
