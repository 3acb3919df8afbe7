use Rattle.std.proofs.Common.{length, sym, ◌∙◌, subst}
use Rattle.dense.specs.Copies.{meaning}
use Rattle.ranks.specs.Rounds.{last_round}
use Rattle.judge.specs.Verdicts.{Holding}
use Rattle.judge.proofs.Held.{whole_held}
use Rattle.judge.proofs.Refused.{accepted, after_whole}
use Rattle.judge.proofs.Promised.{largest_relation, context_keeps_yes}
use Rattle.judge.proofs.Truth.{counterexample_fails}
use Rattle.judge.proofs.judging.judge.Goals as goal

pub returns-in_err-highest-clause-largest_relation : goal.returns-in_err-highest-clause-largest_relation
returns-in_err-highest-clause-largest_relation g c = λ f h. largest_relation _ _ (g.P.Source.sound c.args.module.now) (g.Q.Source.sound c.args.contract.now) f h g.R.Relation.holds

pub returns-in_err-highest-clause-counterexample_fails : goal.returns-in_err-highest-clause-counterexample_fails
returns-in_err-highest-clause-counterexample_fails g c = counterexample_fails _ _ (g.P.Source.sound c.args.module.now) (g.Q.Source.sound c.args.contract.now)

pub invariant_of-filled : goal.invariant_of-filled
invariant_of-filled g c =
    let M = meaning c.copy.new.self in
    let N = meaning c.copy-2.new.self in
    let was = c.args.workspace.now in
    let a = accepted M N (length was) (last_round M N) c.in_ok-highest.highest (sym c.in_ok-highest.was ∙ c.fill_copied.ensures.value) in
    record { holding = subst (Holding M N) (sym (c.fill_copied.ensures.workspace ∙ after_whole M N a.some a.more was a.enough)) (whole_held M N was a.some a.more) }

pub returns-clause-largest_relation : goal.returns-clause-largest_relation
returns-clause-largest_relation g c = λ f h. largest_relation _ _ (g.P.Source.sound c.args.module.now) (g.Q.Source.sound c.args.contract.now) f h g.R.Relation.holds

pub returns-clause-context_keeps_yes : goal.returns-clause-context_keeps_yes
returns-clause-context_keeps_yes g c = context_keeps_yes _ _ _ (g.P.Source.sound c.args.module.now) (g.Q.Source.sound c.args.contract.now)

pub returns-clause-counterexample_fails : goal.returns-clause-counterexample_fails
returns-clause-counterexample_fails g c = counterexample_fails _ _ (g.P.Source.sound c.args.module.now) (g.Q.Source.sound c.args.contract.now)
