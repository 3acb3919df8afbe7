-- The words of a line, and the call that they make.
use Rattle.std.specs.Prelude.{◌≡◌, ℕ, ◌<◌, ◌⊎◌, List, [], ◌∷◌, ◌++◌, length, codes, ◌≢◌, Option, Some, None, Result, Ok, Err}
use Rattle.std.specs.Char.{is_whitespace, is_not_whitespace}
use Rattle.std.specs.Str.{NoCharPasses, EmptyOrStartsWithPassing}
use Rattle.counter.specs.declared.command.Command.TheVariants.{Enter}
use Rattle.counter.specs.declared.command.Command.{Command}
use Rattle.counter.specs.declared.command.Unclear.{Unclear}

-- bs is white space, the word w, and rest, which is empty or begins with white space
abbrev pub First : List ℕ → List ℕ → List ℕ → Type 0
First bs w rest = (gap : List ℕ) × (bs ≡ gap ++ (w ++ rest)) × (0 < length w) × NoCharPasses is_not_whitespace gap × NoCharPasses is_whitespace w × ((more : List ℕ) × EmptyOrStartsWithPassing is_whitespace rest more)

-- ws are the words of bs
abbrev pub Words : List ℕ → List (List ℕ) → Type 0
Words bs [] = NoCharPasses is_not_whitespace bs
Words bs (w ∷ ws) = (rest : List ℕ) × First bs w rest × Words rest ws

-- two words or more
abbrev pub Two : List ℕ → Type 0
Two bs = (v : List ℕ) × (w : List ℕ) × (more : List ℕ) × (rest : List ℕ) × First bs v more × First more w rest

-- a line says what its words make: a call has its name, and as many words after it as it is given
abbrev pub Says : List ℕ → Result (Option Command) Unclear → Type 0
Says bs (Ok None) = Words bs []
Says bs (Ok (Some (Enter file))) = Words bs (codes "enter" ∷ file.now ∷ [])
Says bs (Err u) = (w : List ℕ) × (rest : List ℕ) × First bs w rest × ((w ≢ codes "enter") ⊎ (Words rest [] ⊎ Two rest))
