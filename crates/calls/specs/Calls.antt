-- The five calls: which tests each makes and in which order, what it answers, and what it leaves.
use Rattle.std.specs.Prelude.{◌≡◌, ℕ, ◌+◌, ◌≤◌, Bool, true, false, cond, not, leb, ◌↔◌, List, [], ◌∷◌, length, Some, None, Ok, Err, Option, Result, is_err, nat_le, nat_lt}
use Rattle.lts.specs.Machines.{Machine, Fits}
use Rattle.lts.specs.Conformance.{MachineConforms}
use Rattle.source.specs.declared.refusal.Refusal as judging
use Rattle.table.specs.Table.{Listing, read_text}
use Rattle.table.specs.declared.fault.Fault.{Fault}
use Rattle.ranks.specs.Filled.{total, workspace_after}
use Rattle.judge.specs.declared.verdict.Answer.{Answer}
use Rattle.judge.specs.declared.verdict.Answer.TheVariants.{Yes, No}
use Rattle.judge.specs.declared.verdict.Verdict.{Verdict}
use Rattle.judge.specs.Verdicts.{judged}
use Rattle.calls.specs.declared.seat.Pile.{Pile}
use Rattle.calls.specs.declared.seat.Seat.TheVariants.{Empty, Contract, Fitted}
use Rattle.calls.specs.declared.refusal.Refusal.{Refusal}
use Rattle.calls.specs.declared.request.Reply.{Reply}
use Rattle.calls.specs.Seats.{has_contract, has_pile, contract}
use Rattle.calls.specs.Refusals.{number}
use Rattle.calls.specs.Contents.{Contents, machine_at, pile_machine, places, seat_at, with_table, with_seat}

-- a call; that of fit has the length of its workspace
pub data Call : Type 0 where
  enter : (text : List ℕ) → Call
  seat : (s c : ℕ) → Call
  fit : (s : ℕ) (pile : Pile) (room : ℕ) → Call
  unfit : (s : ℕ) → Call
  clear : (s : ℕ) → Call

-- a test, and the refusal where it fails
pub record Test : Type 0 where
  pub fails : Bool
  pub with_this : Refusal

infixl 20 ◌refuses◌
abbrev pub ◌refuses◌ : Bool → Refusal → Test
b refuses e = record { fails = b; with_this = e }

-- the first test that fails decides; where none does, x is left
abbrev pub unless_failed : {A : Type 0} → List Test → (Refusal → A) → A → A
unless_failed [] refused x = x
unless_failed (t ∷ ts) refused x = cond t.fails (refused t.with_this) (unless_failed ts refused x)

-- the tests of a table that was read: a 13th, and moves over 1,024
abbrev pub enter_tests : Contents → Listing → List Test
enter_tests H t =
    (leb 12 (length H.tables) refuses Refusal.NoPlace)
    ∷ (nat_lt 1024 (places H.tables + length t.moves) refuses Refusal.Text Fault.NoRoom) ∷ []

abbrev pub seat_tests : Contents → ℕ → ℕ → List Test
seat_tests H s c =
    (nat_lt 5 s refuses Refusal.NoSeat)
    ∷ (leb (length H.tables) c refuses Refusal.NoTable)
    ∷ (has_contract (seat_at H s) refuses Refusal.HasContract) ∷ []

-- whether a helper is named that is no table
abbrev pub lacks_helper : ℕ → Option ℕ → Bool
lacks_helper n None = false
lacks_helper n (Some h) = nat_le n h

-- the tests of fit before those of the judge
abbrev pub fit_tests : Contents → ℕ → Pile → List Test
fit_tests H s p =
    (nat_lt 5 s refuses Refusal.NoSeat)
    ∷ (not (has_contract (seat_at H s)) refuses Refusal.NoContract)
    ∷ (leb (length H.tables) p.table refuses Refusal.NoTable)
    ∷ (lacks_helper (length H.tables) p.helper refuses Refusal.NoTable) ∷ []

abbrev pub unfit_tests : Contents → ℕ → List Test
unfit_tests H s =
    (nat_lt 5 s refuses Refusal.NoSeat)
    ∷ (not (has_contract (seat_at H s)) refuses Refusal.NoContract)
    ∷ (not (has_pile (seat_at H s)) refuses Refusal.NothingFitted) ∷ []

abbrev pub clear_tests : Contents → ℕ → List Test
clear_tests H s =
    (nat_lt 5 s refuses Refusal.NoSeat)
    ∷ (not (has_contract (seat_at H s)) refuses Refusal.NoContract) ∷ []

-- the machines that a fit judges: the pile, and the contract on the seat
abbrev pub fitted_machine : Contents → Pile → Machine
fitted_machine H p = pile_machine H.tables p

abbrev pub contract_machine : Contents → ℕ → Machine
contract_machine H s = machine_at H.tables (contract (seat_at H s))

-- a verdict, where it is yes
abbrev pub if_yes : Verdict → Answer → Result Verdict Refusal
if_yes v Yes = Ok v
if_yes v (No round c) = Err (Refusal.DoesNotConform round c)

abbrev pub yes_or_refused : Result Verdict judging.Refusal → Result Verdict Refusal
yes_or_refused (Ok v) = if_yes v v.answer
yes_or_refused (Err r) = Err (Refusal.Unjudged r)

-- what each call answers
abbrev pub enter_result : Contents → Result Listing Fault → Result ℕ Refusal
enter_result H (Ok t) = unless_failed (enter_tests H t) Err (Ok (length H.tables))
enter_result H (Err f) = Err (Refusal.Text f)

abbrev pub seat_result : Contents → ℕ → ℕ → Result (Unit {0}) Refusal
seat_result H s c = unless_failed (seat_tests H s c) Err (Ok tt)

abbrev pub fit_result : Contents → ℕ → Pile → ℕ → Result Verdict Refusal
fit_result H s p room =
    unless_failed (fit_tests H s p) Err (yes_or_refused (judged (fitted_machine H p) (contract_machine H s) room))

abbrev pub unfit_result : Contents → ℕ → Result (Unit {0}) Refusal
unfit_result H s = unless_failed (unfit_tests H s) Err (Ok tt)

abbrev pub clear_result : Contents → ℕ → Result (Unit {0}) Refusal
clear_result H s = unless_failed (clear_tests H s) Err (Ok tt)

-- the workspace that a fit leaves: only the judge writes
abbrev pub fit_workspace : Contents → ℕ → Pile → List ℕ → List ℕ
fit_workspace H s p was =
    unless_failed (fit_tests H s p) (λ _. was) (workspace_after (fitted_machine H p) (contract_machine H s) was)

-- what a call answers, whichever it is
abbrev pub replied : {A : Type 0} → (A → Reply) → Result A Refusal → Result Reply Refusal
replied f (Ok a) = Ok (f a)
replied f (Err e) = Err e

abbrev pub reply : Contents → Call → Result Reply Refusal
reply H (enter text) = replied Reply.Entered (enter_result H (read_text text))
reply H (seat s c) = replied (λ _. Reply.Done) (seat_result H s c)
reply H (fit s p room) = replied Reply.Fitted (fit_result H s p room)
reply H (unfit s) = replied (λ _. Reply.Done) (unfit_result H s)
reply H (clear s) = replied (λ _. Reply.Done) (clear_result H s)

abbrev pub refuses_call : Contents → Call → Bool
refuses_call H c = is_err (reply H c)

-- what a call that is taken makes of the house
abbrev pub changed : Contents → Call → Contents
changed H (enter text) = with_table H (read_text text)
changed H (seat s c) = with_seat H s (Contract c)
changed H (fit s p room) = with_seat H s (Fitted (contract (seat_at H s)) p)
changed H (unfit s) = with_seat H s (Contract (contract (seat_at H s)))
changed H (clear s) = with_seat H s Empty

-- a call that is refused changes nothing
abbrev pub after : Contents → Call → Contents
after H c = cond (refuses_call H c) H (changed H c)

-- the number of a refusal, or 0
abbrev pub refused_with : {A : Type 0} → Result A Refusal → ℕ
refused_with (Ok a) = 0
refused_with (Err e) = number e

abbrev pub passes : List Test → Bool
passes ts = unless_failed ts (λ _. false) true

-- a fit that passes its other tests is refused with 12 exactly when no relation that meets both clauses holds both starts
abbrev pub RefusedExactly : Contents → ℕ → Pile → ℕ → Result Verdict Refusal → Type 0
RefusedExactly H s p room r =
    passes (fit_tests H s p) ≡ true → Fits (fitted_machine H p) → Fits (contract_machine H s) →
    total (fitted_machine H p) (contract_machine H s) ≤ room →
    (refused_with r ≡ 12) ↔ (MachineConforms (fitted_machine H p) (contract_machine H s) → ⊥)
