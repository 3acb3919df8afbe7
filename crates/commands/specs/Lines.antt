-- The call that a line makes.
use Rattle.std.specs.Prelude.{◌≡◌, ℕ, List, [], map, length, Some, None, Ok, Err, codes, Option, Result, slice_index_or}
use Rattle.std.specs.Borrow.{Bor}
use Rattle.table.specs.Text.{figure_below}
use Rattle.commands.specs.Names.{word_names}
use Rattle.commands.specs.Words.{Words}
use Rattle.commands.specs.declared.command.Command.{Command}
use Rattle.commands.specs.declared.command.Command.TheVariants.{Enter, Seat, Fit, Unfit, Clear}
use Rattle.commands.specs.declared.command.Unclear.{Unclear}

-- the word writes the figure
abbrev pub Figure : List ℕ → ℕ → Type 0
Figure word n = figure_below 256 word ≡ Some n

-- the word names a helper, or none
abbrev pub Helper : List ℕ → Option ℕ → Type 0
Helper word None = word ≡ codes "-"
Helper word (Some n) = Figure word n

-- word i of a list
abbrev pub word : List (Bor (List ℕ)) → ℕ → List ℕ
word ws i = (slice_index_or ws i (record { ref_ptr = (0, 0); now = [] })).now

-- so many words, of which the first is the name of the call
abbrev pub Named : List (Bor (List ℕ)) → ℕ → List ℕ → Type 0
Named ws many name = (length ws ≡ many) × (word ws 0 ≡ name)

-- a call is its name and what it is given
abbrev pub Makes : List (Bor (List ℕ)) → Command → Type 0
Makes ws (Enter file) = Named ws 2 (codes "enter") × (word ws 1 ≡ file.now)
Makes ws (Seat s c) = Named ws 3 (codes "seat") × Figure (word ws 1) s × Figure (word ws 2) c
Makes ws (Fit s pile) = Named ws 5 (codes "fit") × Figure (word ws 1) s × Figure (word ws 2) pile.table × Helper (word ws 3) pile.helper × (word_names (word ws 4) ≡ Some pile.hidden.0)
Makes ws (Unfit s) = Named ws 2 (codes "unfit") × Figure (word ws 1) s
Makes ws (Clear s) = Named ws 2 (codes "clear") × Figure (word ws 1) s

-- a blank line has no words, and a call its own; of a line that is no call nothing is said
abbrev pub Says : List ℕ → Result (Option Command) Unclear → Type 0
Says bs (Ok None) = Words bs []
Says bs (Ok (Some c)) = (ws : List (Bor (List ℕ))) × Words bs (map (λ x. x.now) ws) × Makes ws c
Says bs (Err e) = Unit {0}
