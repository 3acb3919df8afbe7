use Rattle.lts.proofs.Readings.{readings_agree}
use Rattle.lts.proofs.Lawful.{refusals_agree}
use Rattle.lts.proofs.machines.readings_agree.Goals as goal

pub returns : goal.returns
returns c = record { words = readings_agree; label_sets = refusals_agree }
