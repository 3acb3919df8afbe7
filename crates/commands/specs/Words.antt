-- The words of a line, which white space parts.
use Rattle.std.specs.Prelude.{◌≡◌, ℕ, ◌<◌, List, [], ◌∷◌, ◌++◌, length}
use Rattle.std.specs.Char.{is_whitespace, is_not_whitespace}
use Rattle.std.specs.Str.{NoCharPasses, EmptyOrStartsWithPassing}

-- bs is white space, the word w, and rest, which is empty or begins with white space
abbrev pub First : List ℕ → List ℕ → List ℕ → Type 0
First bs w rest = (gap : List ℕ) × (bs ≡ gap ++ (w ++ rest)) × (0 < length w) × NoCharPasses is_not_whitespace gap × NoCharPasses is_whitespace w × ((more : List ℕ) × EmptyOrStartsWithPassing is_whitespace rest more)

-- ws are the words of bs
abbrev pub Words : List ℕ → List (List ℕ) → Type 0
Words bs [] = NoCharPasses is_not_whitespace bs
Words bs (w ∷ ws) = (rest : List ℕ) × First bs w rest × Words rest ws
