-- What comes of a text at the desk.
use Rattle.std.specs.Prelude.{ℕ, ◌+◌, List, Ok, Err, Option, Result}
use Rattle.source.specs.declared.table.Move.{Move}
use Rattle.source.specs.Tables.{table_machine}
use Rattle.search.specs.declared.StuckState.{StuckState}
use Rattle.search.specs.Found.{found_alone}
use Rattle.table.specs.declared.checked.Summary.{Summary}
use Rattle.table.specs.declared.fault.Fault.{Fault}
use Rattle.counter.specs.declared.desk.Kept.{Kept}

-- where a table with these moves can get stuck on all 32 names, on which nobody answers
abbrev pub stuck_alone : Summary → List Move → Option StuckState
stuck_alone s moves = found_alone (table_machine s.states s.start moves)

-- the entry under the next number
abbrev pub entry_of : ℕ → Result Summary Fault → List Move → Result Kept Fault
entry_of n (Ok s) moves = Ok (record { number = n; summary = s; stuck = stuck_alone s moves })
entry_of n (Err f) moves = Err f

-- how many texts are refused after it
abbrev pub refused_by : ℕ → Result Kept Fault → ℕ
refused_by n (Ok k) = n
refused_by n (Err f) = n + 1
