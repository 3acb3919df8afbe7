-- One input that holds two texts, with an empty line between them.
use Rattle.std.specs.Prelude.{◌≡◌, ℕ, suc, ◌+◌, ◌-◌, ◌<◌, Bool, true, cond, ◌&&◌, ◌⊎◌, List, [], ◌∷◌, length, take, drop, ◌==◌, slice_index}

-- how many bytes stand before the first empty line, or all of them; `fresh` where a line begins
unfoldable pub gap_from : Bool → List ℕ → ℕ
gap_from fresh [] = 0
gap_from fresh (x ∷ xs) = cond (fresh && x == 10) 0 (suc (gap_from (x == 10) xs))

abbrev pub gap : List ℕ → ℕ
gap input = gap_from true input

-- the text before the first empty line, and the one behind it; without one the second text is empty
abbrev pub first_text : List ℕ → List ℕ
first_text input = take (gap input) input

abbrev pub second_text : List ℕ → List ℕ
second_text input = drop (gap input + 1) input

-- an empty line stands at this place: a line feed that is the first byte, or follows another
abbrev pub EmptyLine : List ℕ → ℕ → Type 0
EmptyLine input at = (at < length input) × (slice_index input at ≡ 10) × ((at ≡ 0) ⊎ (slice_index input (at - 1) ≡ 10))

-- the texts are parted at an empty line before which there is none, or there is none at all
pub record FirstGap (input : List ℕ) : Type 0 where
  pub here : EmptyLine input (gap input) ⊎ (gap input ≡ length input)
  pub none_before : (at : ℕ) → at < gap input → EmptyLine input at → ⊥
