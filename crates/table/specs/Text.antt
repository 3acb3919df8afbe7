use Rattle.std.specs.Prelude.{ℕ, ◌+◌, ◌-◌, ◌*◌, Bool, true, false, cond, not, ◌&&◌, List, [], ◌∷◌, Some, None, Option, ◌==◌, nat_lt}
use Rattle.std.specs.Char.{is_ascii_digit}
use Rattle.std.specs.List.{slice_split}

-- the pieces between the bytes b: one more than there are such bytes
abbrev pub pieces : ℕ → List ℕ → List (List ℕ)
pieces b xs = slice_split (λ x. x == b) xs

-- digits read from the left, after the number so far, while it stays below a limit
abbrev pub figure_on : ℕ → ℕ → List ℕ → Option ℕ
figure_on limit n [] = Some n
figure_on limit n (c ∷ cs) = cond (is_ascii_digit c && nat_lt (n * 10 + (c - 48)) limit) (figure_on limit (n * 10 + (c - 48)) cs) None

-- some byte, and no zero before another
abbrev pub no_leading_zero : List ℕ → Bool
no_leading_zero [] = false
no_leading_zero (c ∷ []) = true
no_leading_zero (c ∷ d ∷ ds) = not (c == 48)

-- the figure that bytes write, if it lies below a limit
abbrev pub figure_below : ℕ → List ℕ → Option ℕ
figure_below limit s = cond (no_leading_zero s) (figure_on limit 0 s) None
