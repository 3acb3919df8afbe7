use Rattle.std.proofs.Common.{ap, ◌∙◌}
use Rattle.lts.specs.Machines.{Machine}
use Rattle.clauses.specs.Workspaces.{first_in}
use Rattle.clauses.proofs.Reading.{found_failing}
use Rattle.clauses.proofs.scan.first_failing.Goals as goal

pub returns : goal.returns
returns g c =
    let M = g.P.Source.means c.args.module.now in
    let N = g.Q.Source.means c.args.contract.now in
    let w = c.args.workspace.now in
    let e = c.first_failing_copied.ensures ∙ ap (λ (x : Machine). first_in M x w c.args.round c.args.p c.args.q) c.copy.ensures in
    record { value = e; first = λ ready a b. e ∙ found_failing M N w c.args.round c.args.p c.args.q ready a b }
