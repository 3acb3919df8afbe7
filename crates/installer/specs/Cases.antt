-- Everything that is worked out by hand, and the printed line.
use Rattle.std.specs.Prelude.{◌≡◌, ℕ, List, [], ◌∷◌, ◌++◌, Some, None, codes}
use Rattle.search.specs.Cases.{SendsFound}
use Rattle.judge.specs.Cases.{WorkedCases as WorkedVerdicts}
use Rattle.installer.specs.Calls.{line_for_input}

-- lines, each with its line feed
abbrev pub lines : List (List ℕ) → List ℕ
lines [] = []
lines (l ∷ ls) = l ++ 10 ∷ lines ls

-- ?0 and then ?1, against ?0 and then ?2, both from state 1
abbrev pub parts_ways : List ℕ
parts_ways = lines (
    codes "table,3,1" ∷ codes "move,1,?,0,0" ∷ codes "move,0,?,1,2" ∷ [] ∷
    codes "table,3,1" ∷ codes "move,1,?,0,0" ∷ codes "move,0,?,2,2" ∷ [])

-- a choice between ?0 and ?1, against a contract that chooses silently
abbrev pub keeps_both : List ℕ
keeps_both = lines (
    codes "table,2,0" ∷ codes "move,0,?,0,1" ∷ codes "move,0,?,1,1" ∷ [] ∷
    codes "table,4,0" ∷ codes "move,0,-,,1" ∷ codes "move,0,-,,2" ∷ codes "move,1,?,0,3" ∷ codes "move,2,?,1,3" ∷ [])

-- verdicts with their ranks and bytes, layers, searches and lines
pub record WorkedCases : Type 0 where
  pub verdicts : WorkedVerdicts
  pub stuck_alone : SendsFound 1 (Some (record { state = 0; label = 32 }))
  pub never_stuck : SendsFound 0 None
  pub no_line : line_for_input parts_ways 65536 ≡ lines (codes "no,3,3,2,1,?,0,0" ∷ [])
  pub yes_line : line_for_input keeps_both 65536 ≡ lines (codes "yes,2,4,1,2" ∷ [])
