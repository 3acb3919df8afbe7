use Rattle.std.proofs.Common.{sym, ◌∙◌}
use Rattle.dense.specs.Copies.{meaning}
use Rattle.dense.specs.Sounds.{meaning_sound}
use Rattle.judge.proofs.Held.{answer_yes, answer_no, never_none}
use Rattle.judge.proofs.judging.Filled.answer.Goals as goal

pub returns-in_default : goal.returns-in_default
returns-in_default c =
    let self = c.args.self.now in
    answer_yes (meaning self.module.now) (meaning self.contract.now) c.in_default.ensures

pub unreachable-requires : goal.unreachable-requires
unreachable-requires c =
    let self = c.args.self.now in
    never_none (meaning self.module.now) (meaning self.contract.now) (meaning_sound self.module.now) (meaning_sound self.contract.now) self.workspace.now self.holding
    c.in-Some.round c.start-p.result c.start-q.result c.in-Some.ensures.0 c.in-Some.ensures.1 c.start-p.ensures c.start-q.ensures (sym c.in_default-found.is ∙ c.first_failing_copied-found.ensures)

pub returns : goal.returns
returns c =
    let self = c.args.self.now in
    answer_no (meaning self.module.now) (meaning self.contract.now) (meaning_sound self.module.now) (meaning_sound self.contract.now) self.workspace.now self.holding
    c.in-Some.round c.start-p.result c.start-q.result c.in-Some.ensures.0 c.in-Some.ensures.1 c.start-p.ensures c.start-q.ensures c.in-Some-found.counterexample (sym c.in-Some-found.is ∙ c.first_failing_copied-found.ensures)
