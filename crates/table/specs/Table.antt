use Rattle.std.specs.Prelude.{ℕ, ◌+◌, Bool, true, false, cond, List, [], ◌∷◌, ◌++◌, length, drop, Some, None, Ok, Err, codes, Option, Result, ◌==◌, nat_lt}
use Rattle.std.specs.Option.{ok_or}
use Rattle.std.specs.Str.{bytes_eq}
use Rattle.table.specs.declared.fault.Fault.{Fault}
use Rattle.source.specs.declared.table.Move.{Move}
use Rattle.table.specs.declared.checked.Summary.{Summary}
use Rattle.table.specs.declared.head.Head.{Head}
use Rattle.table.specs.declared.field.Way.{Way}
use Rattle.table.specs.declared.field.Way.TheVariants.{Receive, Send, Silent}
use Rattle.table.specs.declared.line.Kind.{Kind}
use Rattle.table.specs.declared.line.Stage.{Stage}
use Rattle.table.specs.declared.line.Stage.TheVariants.{BeforeHead, AfterHead}
use Rattle.table.specs.declared.line.Line.{Line}
use Rattle.table.specs.declared.line.Line.TheVariants.{First, Step}
use Rattle.table.specs.Text.{pieces, figure_below}

-- go on with what was read, or keep the fault
abbrev pub and_then : {A B : Type 0} → Result A Fault → (A → Result B Fault) → Result B Fault
and_then (Ok a) f = f a
and_then (Err e) f = Err e

-- the figure below a limit in field i of line k
abbrev pub number_at : ℕ → ℕ → ℕ → List ℕ → Result ℕ Fault
number_at limit k i s = ok_or (figure_below limit s) (Fault.Figure k i)

-- the number of states in field i of line k, from 1 to 255
abbrev pub states_at : ℕ → ℕ → List ℕ → Result ℕ Fault
states_at k i s = and_then (number_at 256 k i s) (λ n. cond (n == 0) (Err (Fault.Figure k i)) (Ok n))

-- the way that a byte stands for: ? ! or -
abbrev pub way_of : ℕ → Option Way
way_of b = cond (b == 63) (Some Receive) (cond (b == 33) (Some Send) (cond (b == 45) (Some Silent) None))

abbrev pub way_in : List ℕ → Option Way
way_in [] = None
way_in (b ∷ []) = way_of b
way_in (b ∷ c ∷ cs) = None

abbrev pub way_at : ℕ → List ℕ → Result Way Fault
way_at k s = ok_or (way_in s) (Fault.Way k)

abbrev pub empty : List ℕ → Bool
empty [] = true
empty (x ∷ xs) = false

-- the label that a way makes with the name in field i of line k: n to receive n, n + 32 to send it, 64 to be silent
abbrev pub label_at : ℕ → ℕ → Way → List ℕ → Result ℕ Fault
label_at k i Receive s = number_at 32 k i s
label_at k i Send s = and_then (number_at 32 k i s) (λ n. Ok (n + 32))
label_at k i Silent s = cond (empty s) (Ok 64) (Err (Fault.SilentName k))

-- the fields after the first word of a move line, in a table of n states
abbrev pub move_of : ℕ → ℕ → List (List ℕ) → Result Move Fault
move_of n k [] = Err (Fault.Misshapen k)
move_of n k (a ∷ []) = Err (Fault.Misshapen k)
move_of n k (a ∷ b ∷ []) = Err (Fault.Misshapen k)
move_of n k (a ∷ b ∷ c ∷ []) = Err (Fault.Misshapen k)
move_of n k (from ∷ way ∷ name ∷ to ∷ []) =
    and_then (number_at n k 2 from) (λ p. and_then (way_at k way) (λ w. and_then (label_at k 4 w name) (λ l. and_then (number_at n k 5 to) (λ q. Ok (record { from = p; label = l; to = q })))))
move_of n k (a ∷ b ∷ c ∷ d ∷ e ∷ es) = Err (Fault.Misshapen k)

-- the fields after the first word of a table line
abbrev pub head_of : ℕ → List (List ℕ) → Result Head Fault
head_of k [] = Err (Fault.Misshapen k)
head_of k (a ∷ []) = Err (Fault.Misshapen k)
head_of k (states ∷ start ∷ []) = and_then (states_at k 2 states) (λ n. and_then (number_at n k 3 start) (λ s. Ok (record { states = n; start = s })))
head_of k (a ∷ b ∷ c ∷ cs) = Err (Fault.Misshapen k)

-- the kind of a line, by its first word
abbrev pub kind_of : List ℕ → Kind
kind_of w = cond (bytes_eq w (codes "table")) Kind.Table (cond (bytes_eq w (codes "move")) Kind.Move Kind.Other)

abbrev pub if_table : {A : Type 0} → Kind → A → A → A
if_table Kind.Table a b = a
if_table Kind.Move a b = b
if_table Kind.Other a b = b

abbrev pub if_move : {A : Type 0} → Kind → A → A → A
if_move Kind.Table a b = b
if_move Kind.Move a b = a
if_move Kind.Other a b = b

-- a whole line, by its fields
abbrev pub head_line : ℕ → List (List ℕ) → Result Head Fault
head_line k [] = Err (Fault.Misshapen k)
head_line k (w ∷ fs) = if_table (kind_of w) (head_of k fs) (Err (Fault.Misshapen k))

abbrev pub move_line : ℕ → ℕ → List (List ℕ) → Result Move Fault
move_line n k [] = Err (Fault.Misshapen k)
move_line n k (w ∷ fs) = if_move (kind_of w) (move_of n k fs) (Err (Fault.Misshapen k))

-- what a line says before the first line or after it, by its fields
abbrev pub line_says : Stage → ℕ → List (List ℕ) → Result Line Fault
line_says BeforeHead k fs = and_then (head_line k fs) (λ t. Ok (First t))
line_says (AfterHead t) k fs = and_then (move_line t.states k fs) (λ m. Ok (Step m))

-- the stage after a line
abbrev pub stage_after : Stage → Line → Stage
stage_after s (First h) = AfterHead h
stage_after s (Step m) = s

-- what the text of a table says
pub record Listing : Type 0 where
  pub states : ℕ
  pub start : ℕ
  pub moves : List Move

abbrev pub with_moves : Head → List Move → Listing
with_moves h ms = record { states = h.states; start = h.start; moves = ms }

-- the move lines from line k on: after the last line feed nothing stands
abbrev pub moves_from : ℕ → ℕ → List (List ℕ) → Result (List Move) Fault
moves_from n k [] = Err (Fault.Unended k)
moves_from n k (l ∷ []) = cond (empty l) (Ok []) (Err (Fault.Unended k))
moves_from n k (l ∷ m ∷ ls) = and_then (move_line n k (pieces 44 l)) (λ x. and_then (moves_from n (k + 1) (m ∷ ls)) (λ xs. Ok (x ∷ xs)))

-- the lines of a whole text
abbrev pub listing_from : ℕ → List (List ℕ) → Result Listing Fault
listing_from k [] = Err (Fault.Unended k)
listing_from k (l ∷ []) = Err (Fault.Unended k)
listing_from k (l ∷ m ∷ ls) = and_then (head_line k (pieces 44 l)) (λ h. and_then (moves_from h.states (k + 1) (m ∷ ls)) (λ ms. Ok (with_moves h ms)))

abbrev pub longest : ℕ
longest = 40960

-- a text's listing, or the first fault in it
abbrev pub read_text : List ℕ → Result Listing Fault
read_text text = cond (nat_lt longest (length text)) (Err Fault.TooLong) (listing_from 1 (pieces 10 text))

-- what is known of a listing before its moves are stored
abbrev pub summary_of : Result Listing Fault → Result Summary Fault
summary_of (Ok t) = Ok (record { states = t.states; start = t.start; moves = length t.moves })
summary_of (Err f) = Err f

abbrev pub moves_of : Result Listing Fault → List Move
moves_of (Ok t) = t.moves
moves_of (Err f) = []

-- a table with more moves than there is room for is refused
abbrev pub in_room : ℕ → Result Summary Fault → Result Summary Fault
in_room room (Ok h) = cond (nat_lt room h.moves) (Err Fault.NoRoom) (Ok h)
in_room room (Err f) = Err f

-- the moves and then the places behind them as they were; on a refusal all as it was
abbrev pub stored_in : {A : Type 0} → Result A Fault → List Move → List Move → List Move
stored_in (Ok a) ms was = ms ++ drop (length ms) was
stored_in (Err f) ms was = was
