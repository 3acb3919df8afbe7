-- The numbers of the refusals. What else a refusal tells is what its case holds: the reader's fault with line and field,
-- the judge's refusal, or the round and the counterexample of a no.
use Rattle.std.specs.Prelude.{ℕ}
use Rattle.table.specs.Fault as fault
use Rattle.source.specs.Refusals as judging
use Rattle.calls.specs.declared.refusal.Refusal.{Refusal}

abbrev pub number : Refusal → ℕ
number (Refusal.Text f) = fault.number f
number Refusal.NoPlace = 4
number Refusal.NoSeat = 5
number Refusal.NoContract = 6
number Refusal.HasContract = 7
number Refusal.NoTable = 8
number Refusal.NothingFitted = 9
number (Refusal.Unjudged r) = judging.number r
number (Refusal.DoesNotConform round c) = 12
