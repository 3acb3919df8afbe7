-- A set of names as one word: figures below 32 with commas between them, or - for none.
use Rattle.std.specs.Prelude.{ℕ, ◌^◌, Bool, false, cond, List, [], ◌∷◌, Some, Option, option_and_then, option_map, ◌==◌, bit_or}
use Rattle.table.specs.Text.{pieces, figure_below}

-- the set with one name more
abbrev pub with_name : ℕ → ℕ → ℕ
with_name names name = bit_or names (2 ^ name)

-- the set with the name that bytes write
abbrev pub with_name_of : ℕ → List ℕ → Option ℕ
with_name_of names bs = option_map (with_name names) (figure_below 32 bs)

-- the set with the names that parts write, if each writes one
abbrev pub with_names_of : ℕ → List (List ℕ) → Option ℕ
with_names_of names [] = Some names
with_names_of names (p ∷ ps) = option_and_then (λ more. with_names_of more ps) (with_name_of names p)

abbrev pub list_names : List ℕ → Option ℕ
list_names word = with_names_of 0 (pieces 44 word)

abbrev pub is_none : List ℕ → Bool
is_none [] = false
is_none (b ∷ []) = b == 45
is_none (b ∷ c ∷ cs) = false

abbrev pub word_names : List ℕ → Option ℕ
word_names word = cond (is_none word) (Some 0) (list_names word)
