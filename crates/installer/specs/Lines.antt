-- The line of an outcome.
use Rattle.std.specs.Prelude.{ℕ, ◌-◌, ◌<◌, cond, List, [], ◌∷◌, ◌++◌, Some, None, codes, Option, Ok, Err, Result, nat_lt}
use Rattle.table.specs.Write.{written_line}
use Rattle.clauses.specs.declared.counterexample.Counterexample.{Counterexample}
use Rattle.clauses.specs.declared.counterexample.Counterexample.TheVariants.{Move, Rest}
use Rattle.judge.specs.declared.verdict.Answer.{Answer}
use Rattle.judge.specs.declared.verdict.Answer.TheVariants.{Yes, No}
use Rattle.judge.specs.declared.verdict.Verdict.{Verdict}
use Rattle.installer.specs.declared.outcome.Refused.{Refused}
use Rattle.installer.specs.Figures.{figure}

-- a label below 32 receives on that name, any other sends on the name that is 32 less
abbrev pub way_field : ℕ → List ℕ
way_field l = cond (nat_lt l 32) (codes "?") (codes "!")

abbrev pub name_field : ℕ → List ℕ
name_field l = figure (cond (nat_lt l 32) l (l - 32))

-- way and name, both empty where there is no label
abbrev pub label_fields : Option ℕ → List (List ℕ)
label_fields (Some l) = way_field l ∷ name_field l ∷ []
label_fields None = [] ∷ [] ∷ []

-- the clause, the label and the state
abbrev pub failing_fields : Counterexample → List (List ℕ)
failing_fields (Move l p) = codes "1" ∷ (label_fields (Some l) ++ figure p ∷ [])
failing_fields (Rest l p) = codes "2" ∷ (label_fields l ++ figure p ∷ [])

abbrev pub answer_fields : Verdict → Answer → List (List ℕ)
answer_fields v Yes = codes "yes" ∷ figure v.states ∷ figure v.others ∷ figure v.highest ∷ figure v.standing ∷ []
answer_fields v (No round c) = codes "no" ∷ figure v.states ∷ figure v.others ∷ figure round ∷ failing_fields c

abbrev pub refusal_fields : Refused → List (List ℕ)
refusal_fields r = codes "refused" ∷ figure r.number ∷ figure r.text ∷ figure r.line ∷ figure r.field ∷ []

-- fields with commas between them, and a line feed
abbrev pub line_of : Result Verdict Refused → List ℕ
line_of (Ok v) = written_line (answer_fields v v.answer)
line_of (Err r) = written_line (refusal_fields r)

abbrev pub state_of : Counterexample → ℕ
state_of (Move l p) = p
state_of (Rest l p) = p

abbrev pub SmallAnswer : Answer → Type 0
SmallAnswer Yes = Unit {0}
SmallAnswer (No round c) = state_of c < 65536

abbrev pub SmallVerdict : Verdict → Type 0
SmallVerdict v = (v.states < 65536) × (v.others < 65536) × SmallAnswer v.answer

-- an outcome whose numbers have at most five digits
abbrev pub Small : Result Verdict Refused → Type 0
Small (Ok v) = SmallVerdict v
Small (Err r) = r.line < 65536
