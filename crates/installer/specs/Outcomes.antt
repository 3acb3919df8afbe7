-- What comes of two texts.
use Rattle.std.specs.Prelude.{◌≡◌, ℕ, ◌≤◌, true, ◌↔◌, List, [], is_ok, Ok, Err, Result}
use Rattle.lts.specs.Machines.{Machine, Fits}
use Rattle.lts.specs.Conformance.{MachineConforms}
use Rattle.source.specs.Tables.{table_machine}
use Rattle.source.specs.Refusals.{number}
use Rattle.source.specs.declared.refusal.Refusal.{Refusal}
use Rattle.source.specs.declared.table.Table.{Table}
use Rattle.table.specs.Fault.{number as fault_number, line_of, field_of}
use Rattle.table.specs.Table.{Listing, read_text, summary_of, in_room}
use Rattle.table.specs.declared.checked.Summary.{Summary}
use Rattle.table.specs.declared.fault.Fault.{Fault}
use Rattle.ranks.specs.Filled.{total, workspace_after}
use Rattle.judge.specs.declared.verdict.Answer.TheVariants.{Yes}
use Rattle.judge.specs.declared.verdict.Verdict.{Verdict}
use Rattle.judge.specs.Verdicts.{judged}
use Rattle.installer.specs.declared.outcome.Refused.{Refused}

-- what a text is found to be, with room for 1,024 moves of its own
abbrev pub entered : List ℕ → Result Summary Fault
entered text = in_room 1024 (summary_of (read_text text))

-- the machine that a table means
abbrev pub means : Table → Machine
means t = table_machine t.states t.start t.moves.now

-- the machine of a text; of one that is no table, the word too-large
abbrev pub machine_by : Result Listing Fault → Machine
machine_by (Ok t) = table_machine t.states t.start t.moves
machine_by (Err f) = table_machine 0 0 []

abbrev pub machine_of : List ℕ → Machine
machine_of text = machine_by (read_text text)

-- a text that is refused, as the first or the second of two
abbrev pub faulty : ℕ → Fault → Refused
faulty text f = record { number = fault_number f; text = text; line = line_of f; field = field_of f }

-- what a text is entered as: the table that means its machine, or the fault of the first text or the second
abbrev pub Enters : ℕ → List ℕ → Result Table Refused → Type 0
Enters text bytes (Ok t) = (is_ok (entered bytes) ≡ true) × (means t ≡ machine_of bytes)
Enters text bytes (Err e) = (f : Fault) × (Err f ≡ entered bytes) × (e ≡ faulty text f)

-- what the judge refuses is in neither text
abbrev pub unjudged : Refusal → Refused
unjudged r = record { number = number r; text = 0; line = 0; field = 0 }

-- what the judge answers
abbrev pub told : Result Verdict Refusal → Result Verdict Refused
told (Ok v) = Ok v
told (Err r) = Err (unjudged r)

-- the first text is tested wholly before the second, and both before they are judged
abbrev pub outcome_by : Result Summary Fault → Result Summary Fault → Result Verdict Refusal → Result Verdict Refused
outcome_by (Err f) y z = Err (faulty 1 f)
outcome_by (Ok s) (Err f) z = Err (faulty 2 f)
outcome_by (Ok s) (Ok t) z = told z

abbrev pub outcome : List ℕ → List ℕ → ℕ → Result Verdict Refused
outcome actual promised room = outcome_by (entered actual) (entered promised) (judged (machine_of actual) (machine_of promised) room)

-- the one where both texts are tables, and else the other
abbrev pub if_both : {A : Type 0} → Result Summary Fault → Result Summary Fault → A → A → A
if_both (Err f) y a b = b
if_both (Ok s) (Err f) a b = b
if_both (Ok s) (Ok t) a b = a

-- the workspace is filled as the judge fills it; where a text is refused it stays
abbrev pub worked_on : List ℕ → List ℕ → List ℕ → List ℕ
worked_on actual promised was = if_both (entered actual) (entered promised) (workspace_after (machine_of actual) (machine_of promised) was) was

-- a text that is a table is never too large: refusal 10 does not occur
abbrev pub TablesFit : List ℕ → Type 0
TablesFit text = (s : Summary) → entered text ≡ Ok s → Fits (machine_of text)

-- two tables with room enough are judged, and the answer is yes exactly when the first conforms to the second
abbrev pub TellsConformance : List ℕ → List ℕ → ℕ → Type 0
TellsConformance actual promised room = (s t : Summary) → entered actual ≡ Ok s → entered promised ≡ Ok t → total (machine_of actual) (machine_of promised) ≤ room →
    (v : Verdict) × (outcome actual promised room ≡ Ok v) × ((v.answer ≡ Yes) ↔ MachineConforms (machine_of actual) (machine_of promised))
