use Rattle.std.proofs.Common.{refl}
use Rattle.table.proofs.Law.{reads_what_is_written}
use Rattle.table.proofs.Blamed.{refuses_the_first_fault}
use Rattle.table.proofs.checked.check.Goals as goal

pub returns : goal.returns
returns c = record { same = refl; value = c.summarize-found.ensures; reads = reads_what_is_written; refuses = refuses_the_first_fault }
