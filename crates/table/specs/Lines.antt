use Rattle.std.specs.Prelude.{◌≡◌, ℕ, ◌+◌, ◌<◌, cond, List, [], ◌∷◌, drop, Some, None, Ok, Err, Option, Result}
use Rattle.table.specs.declared.fault.Fault.{Fault}
use Rattle.table.specs.declared.line.Stage.{Stage}
use Rattle.table.specs.declared.line.Line.{Line}
use Rattle.table.specs.declared.line.Line.TheVariants.{First, Step}
use Rattle.source.specs.declared.table.Move.{Move}
use Rattle.table.specs.declared.reader.Reader.{Reader}
use Rattle.table.specs.Text.{pieces}
use Rattle.table.specs.Table.{empty, line_says, stage_after}

-- the lines from where a reader stands, and last what follows the last line feed
abbrev pub left : Reader → List (List ℕ)
left r = pieces 10 (drop r.at r.text.now)

-- the first of the lines that are left, where it is line k
abbrev pub first_of : Stage → ℕ → List (List ℕ) → Option (Result Line Fault)
first_of s k [] = None
first_of s k (l ∷ []) = cond (empty l) None (Some (Err (Fault.Unended k)))
first_of s k (l ∷ m ∷ ls) = Some (line_says s k (pieces 44 l))

-- what a reader hands out next
abbrev pub next_line : Reader → Option (Result Line Fault)
next_line r = first_of r.stage r.line (left r)

-- the move in what was handed out
abbrev pub move_in : Option (Result Line Fault) → Option Move
move_in None = None
move_in (Some (Ok (First h))) = None
move_in (Some (Ok (Step m))) = Some m
move_in (Some (Err f)) = None

abbrev pub behind_first : List (List ℕ) → List (List ℕ)
behind_first [] = []
behind_first (l ∷ ls) = ls

-- behind a line, the reader stands at the next one
pub record Behind (x : Line) (before after : Reader) : Type 0 where
  pub text : after.text.now ≡ before.text.now
  pub stage : after.stage ≡ stage_after before.stage x
  pub line : after.line ≡ before.line + 1
  pub further : before.at < after.at
  pub left : left after ≡ behind_first (left before)

-- at a fault or at the end, the reader stands as before
pub record Stays (before after : Reader) : Type 0 where
  pub text : after.text.now ≡ before.text.now
  pub stage : after.stage ≡ before.stage
  pub line : after.line ≡ before.line
  pub at : after.at ≡ before.at

-- where a reader stands after what it handed out
abbrev pub Onward : Option (Result Line Fault) → Reader → Reader → Type 0
Onward None before after = Stays before after
Onward (Some (Ok x)) before after = Behind x before after
Onward (Some (Err f)) before after = Stays before after
