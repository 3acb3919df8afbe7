use Rattle.judge.proofs.Computed.{worked_cases}
use Rattle.judge.proofs.judging.worked_cases.Goals as goal

pub returns : goal.returns
returns c = worked_cases
