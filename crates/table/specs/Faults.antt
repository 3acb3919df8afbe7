use Rattle.std.specs.Prelude.{◌≡◌, ℕ, ◌+◌, ◌-◌, ◌<◌, ◌≤◌, ◌⊎◌, ◌↔◌, List, [], ◌∷◌, ◌++◌, length, Err, codes, decimal, ◌≢◌, slice_index_or}
use Rattle.std.specs.List.{AllByRecursion}
use Rattle.table.specs.declared.fault.Fault.{Fault}
use Rattle.table.specs.Text.{pieces}
use Rattle.table.specs.Table.{Listing, read_text}
use Rattle.table.specs.Write.{write, WellFormed}

-- no byte b
abbrev pub Free : ℕ → List ℕ → Type 0
Free b xs = AllByRecursion (λ x. x ≢ b) xs

-- a field, counted from 1
abbrev pub nth_field : List (List ℕ) → ℕ → List ℕ
nth_field fs i = slice_index_or fs (i - 1) []

-- a figure below a limit
abbrev pub IsFigure : ℕ → List ℕ → Type 0
IsFigure limit s = (n : ℕ) × (n < limit) × (s ≡ decimal n)

-- the number of states
abbrev pub IsStates : ℕ → List ℕ → Type 0
IsStates n s = (0 < n) × (n < 256) × (s ≡ decimal n)

abbrev pub IsWay : List ℕ → Type 0
IsWay s = (s ≡ codes "?") ⊎ ((s ≡ codes "!") ⊎ (s ≡ codes "-"))

-- a name that fits its way
abbrev pub IsName : List ℕ → List ℕ → Type 0
IsName way s = ((way ≡ codes "-") × (s ≡ [])) ⊎ ((way ≢ codes "-") × IsFigure 32 s)

-- the kind of a line and the number of its fields
abbrev pub Shaped : List ℕ → ℕ → List (List ℕ) → Type 0
Shaped word many fs = (nth_field fs 1 ≡ word) × (length fs ≡ many)

-- the fault of a first line: its shape, or the first field that is wrong
pub data HeadFault (fs : List (List ℕ)) : Fault → Type 0 where
  shape : (Shaped (codes "table") 3 fs → ⊥) → HeadFault fs (Fault.Misshapen 1)
  states : Shaped (codes "table") 3 fs → ((n : ℕ) → IsStates n (nth_field fs 2) → ⊥) → HeadFault fs (Fault.Figure 1 2)
  start : Shaped (codes "table") 3 fs → (n : ℕ) → IsStates n (nth_field fs 2) → (IsFigure n (nth_field fs 3) → ⊥) → HeadFault fs (Fault.Figure 1 3)

-- the fault of line k, a move line in a table of n states
pub data MoveFault (n k : ℕ) (fs : List (List ℕ)) : Fault → Type 0 where
  shape : (Shaped (codes "move") 5 fs → ⊥) → MoveFault n k fs (Fault.Misshapen k)
  from : Shaped (codes "move") 5 fs → (IsFigure n (nth_field fs 2) → ⊥) → MoveFault n k fs (Fault.Figure k 2)
  way : Shaped (codes "move") 5 fs → IsFigure n (nth_field fs 2) → (IsWay (nth_field fs 3) → ⊥) → MoveFault n k fs (Fault.Way k)
  name : Shaped (codes "move") 5 fs → IsFigure n (nth_field fs 2) → IsWay (nth_field fs 3) → (nth_field fs 3 ≢ codes "-") → (IsFigure 32 (nth_field fs 4) → ⊥) → MoveFault n k fs (Fault.Figure k 4)
  silent : Shaped (codes "move") 5 fs → IsFigure n (nth_field fs 2) → nth_field fs 3 ≡ codes "-" → (nth_field fs 4 ≢ []) → MoveFault n k fs (Fault.SilentName k)
  to : Shaped (codes "move") 5 fs → IsFigure n (nth_field fs 2) → IsWay (nth_field fs 3) → IsName (nth_field fs 3) (nth_field fs 4) → (IsFigure n (nth_field fs 5) → ⊥) → MoveFault n k fs (Fault.Figure k 5)

-- the lines before the named one are a well-formed table written out, and the named one has the fault
pub data Faulty (text : List ℕ) : Fault → Type 0 where
  no_line : Free 10 text → Faulty text (Fault.Unended 1)
  in_head : (l rest : List ℕ) (f : Fault) → text ≡ l ++ 10 ∷ rest → Free 10 l → HeadFault (pieces 44 l) f → Faulty text f
  no_end : (t : Listing) (rest : List ℕ) → WellFormed t → text ≡ write t ++ rest → 0 < length rest → Free 10 rest → Faulty text (Fault.Unended (2 + length t.moves))
  in_move : (t : Listing) (l rest : List ℕ) (f : Fault) → WellFormed t → text ≡ write t ++ (l ++ 10 ∷ rest) → Free 10 l → MoveFault t.states (2 + length t.moves) (pieces 44 l) f → Faulty text f

-- a text is refused with a fault just if it is too long, or else has that fault and none before it
abbrev pub RefusesTheFirstFault : Type 0
RefusesTheFirstFault = (text : List ℕ) (f : Fault) → (read_text text ≡ Err f) ↔ (((40960 < length text) × (f ≡ Fault.TooLong)) ⊎ ((length text ≤ 40960) × Faulty text f))
