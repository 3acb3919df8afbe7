-- What the two calls answer, and what they leave in the buffers.
use Rattle.std.specs.Prelude.{ℕ, cond, List, length, Err, Result, nat_lt}
use Rattle.table.specs.Table.{longest}
use Rattle.judge.specs.Promises.{FindsTheLargest, ContextKeepsYes, CounterexampleFails}
use Rattle.judge.specs.declared.verdict.Verdict.{Verdict}
use Rattle.installer.specs.declared.outcome.Refused.{Refused}
use Rattle.installer.specs.Texts.{line_room, put_on}
use Rattle.installer.specs.Outcomes.{machine_of, outcome, worked_on, TablesFit, TellsConformance}
use Rattle.installer.specs.Lines.{line_of, Small}
use Rattle.installer.specs.Inputs.{first_text, second_text}

-- the one with a line buffer that is long enough, the other with one that is too short
abbrev pub with_room : {A : Type 0} → List ℕ → A → A → A
with_room was a b = cond (nat_lt (length was) line_room) b a

-- the length of the line, and the line buffer: a line at its front, or nothing written where it is too short
abbrev pub length_told : List ℕ → List ℕ → ℕ
length_told line was = with_room was (length line) 0

abbrev pub line_after : List ℕ → List ℕ → List ℕ
line_after line was = with_room was (put_on line was) was

-- the line on two texts, with so many bytes of workspace
abbrev pub line_for : List ℕ → List ℕ → ℕ → List ℕ
line_for actual promised room = line_of (outcome actual promised room)

-- an input that is too long has neither text
abbrev pub if_short : {A : Type 0} → List ℕ → A → A → A
if_short input a b = cond (nat_lt longest (length input)) b a

-- an input that is too long is refused with 4, as neither text
abbrev pub too_long : Result Verdict Refused
too_long = Err (record { number = 4; text = 0; line = 0; field = 0 })

-- the line on one input that holds both
abbrev pub line_for_input : List ℕ → ℕ → List ℕ
line_for_input input room = if_short input (line_for (first_text input) (second_text input) room) (line_of too_long)

abbrev pub worked_on_input : List ℕ → List ℕ → List ℕ
worked_on_input input was = if_short input (worked_on (first_text input) (second_text input) was) was

-- what a verdict on the machines of two texts promises
pub record VerdictPromises (actual promised : List ℕ) (room : ℕ) : Type 0 where
  pub conformance : TellsConformance actual promised room
  pub small : Small (outcome actual promised room)
  pub largest : FindsTheLargest (machine_of actual) (machine_of promised) (λ p q. Unit {0})
  pub contexts : ContextKeepsYes (machine_of actual) (machine_of promised) room
  pub counterexample : CounterexampleFails (machine_of actual) (machine_of promised)
  pub actual_fits : TablesFit actual
  pub promised_fits : TablesFit promised
