use Rattle.std.proofs.Common.{◌∙◌}
use Rattle.installer.proofs.Entered.{both_entered}
use Rattle.installer.proofs.entering.outcome_of.Goals as goal

pub returns-in_err-verdict-clause-workspace : goal.returns-in_err-verdict-clause-workspace
returns-in_err-verdict-clause-workspace c =
    c.judge.ensures.workspace
    ∙ both_entered c.args.module.now c.args.contract.now c.args.workspace.now c.in_ok-actual.actual c.in_ok-promised.promised c.in_ok-actual.ensures c.in_ok-promised.ensures
