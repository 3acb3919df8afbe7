-- The workspace that is filled.
use Rattle.std.specs.Prelude.{ℕ, ◌+◌, ◌*◌, ◌/◌, ◌%◌, cond, ◌||◌, List, [], ◌∷◌, ◌++◌, length, drop, Ok, Err, Result, ◌==◌, nat_lt}
use Rattle.lts.specs.Machines.{Machine}
use Rattle.source.specs.declared.refusal.Refusal.{Refusal}
use Rattle.source.specs.declared.refusal.Refusal.TheVariants.{TooLarge, TooShort}
use Rattle.closure.specs.Sheets.{closure_sheet}
use Rattle.ranks.specs.Rounds.{last_round, final_ranks}

-- two bytes a rank, the low one first
abbrev pub laid : List ℕ → List ℕ
laid [] = []
laid (x ∷ xs) = x % 256 ∷ x / 256 ∷ laid xs

-- both closures and the ranks
abbrev pub total : Machine → Machine → ℕ
total M N = (M.size + N.size) * (M.size + N.size)

abbrev pub whole : Machine → Machine → List ℕ → List ℕ
whole M N was = closure_sheet M ++ (closure_sheet N ++ (laid (final_ranks M N) ++ drop (total M N) was))

-- a machine that is too large is refused first, then a workspace that is too short
abbrev pub unless_refused : {A : Type 0} → Machine → Machine → ℕ → A → Result A Refusal
unless_refused M N room x = cond (M.size == 0 || N.size == 0) (Err TooLarge) (cond (nat_lt room (total M N)) (Err TooShort) (Ok x))

abbrev pub filled : Machine → Machine → ℕ → Result ℕ Refusal
filled M N room = unless_refused M N room (last_round M N)

-- a refusal leaves the workspace
abbrev pub workspace_after : Machine → Machine → List ℕ → List ℕ
workspace_after M N was = cond (M.size == 0 || N.size == 0) was (cond (nat_lt (length was) (total M N)) was (whole M N was))
