-- What is kept of a text.
use Rattle.std.specs.Prelude.{◌≡◌, ℕ, List, Ok, Err, vec_items, Result}
use Rattle.table.specs.declared.checked.Summary.{Summary}
use Rattle.table.specs.declared.fault.Fault.{Fault}
use Rattle.table.specs.Table.{read_text, summary_of, moves_of, in_room}
use Rattle.console.specs.declared.stored.Stored.{Stored}
use Rattle.console.specs.declared.stored.Unkept.{Unkept}
use Rattle.console.specs.declared.stored.Unkept.TheVariants.{Refused, OutOfMemory}

-- the table in a text, with room for 1,024 moves
abbrev pub found_in : List ℕ → Result Summary Fault
found_in text = in_room 1024 (summary_of (read_text text))

-- what is kept of a text is its table with just its moves, or why there is none
abbrev pub Keeps : List ℕ → Result Stored Unkept → Type 0
Keeps text (Ok s) = (Ok s.summary ≡ found_in text) × (vec_items s.moves ≡ moves_of (read_text text))
Keeps text (Err (Refused f)) = Err f ≡ found_in text
Keeps text (Err (OutOfMemory e)) = Unit {0}
