-- A house by its history: the calls that were made, the last one first, and of these the calls that were taken.
use Rattle.std.specs.Prelude.{◌≡◌, ℕ, true, false, cond, List, [], ◌∷◌, Some, None, Option, Result, ◌==◌}
use Rattle.table.specs.Table.{Listing, read_text}
use Rattle.calls.specs.declared.seat.Pile.{Pile}
use Rattle.calls.specs.declared.seat.Seat.{Seat}
use Rattle.calls.specs.declared.seat.Seat.TheVariants.{Empty, Contract, Fitted}
use Rattle.calls.specs.declared.refusal.Refusal.{Refusal}
use Rattle.calls.specs.declared.request.Reply.{Reply}
use Rattle.calls.specs.Contents.{Contents, empty_house, one_more}
use Rattle.calls.specs.Calls.{Call, enter, seat, fit, unfit, clear, reply, refuses_call, changed}

-- the tables, in the order in which their texts were entered
abbrev pub entered : List Call → List Listing
entered [] = []
entered (enter text ∷ past) = one_more (entered past) (read_text text)
entered (seat r c ∷ past) = entered past
entered (fit r p room ∷ past) = entered past
entered (unfit r ∷ past) = entered past
entered (clear r ∷ past) = entered past

-- the contract at s is the table that the last seat call put there; a later clear takes it away
abbrev pub contract_on : ℕ → List Call → Option ℕ
contract_on s [] = None
contract_on s (enter text ∷ past) = contract_on s past
contract_on s (seat r c ∷ past) = cond (r == s) (Some c) (contract_on s past)
contract_on s (fit r p room ∷ past) = contract_on s past
contract_on s (unfit r ∷ past) = contract_on s past
contract_on s (clear r ∷ past) = cond (r == s) None (contract_on s past)

-- the fitted pile at s is what the last fit judged there; a later unfit or clear takes it away
abbrev pub pile_on : ℕ → List Call → Option Pile
pile_on s [] = None
pile_on s (enter text ∷ past) = pile_on s past
pile_on s (seat r c ∷ past) = pile_on s past
pile_on s (fit r p room ∷ past) = cond (r == s) (Some p) (pile_on s past)
pile_on s (unfit r ∷ past) = cond (r == s) None (pile_on s past)
pile_on s (clear r ∷ past) = cond (r == s) None (pile_on s past)

abbrev pub seat_with : Option ℕ → Option Pile → Seat
seat_with None p = Empty
seat_with (Some c) None = Contract c
seat_with (Some c) (Some p) = Fitted c p

abbrev pub seat_on : ℕ → List Call → Seat
seat_on s past = seat_with (contract_on s past) (pile_on s past)

-- the six seats
abbrev pub six : (ℕ → Seat) → List Seat
six f = f 0 ∷ f 1 ∷ f 2 ∷ f 3 ∷ f 4 ∷ f 5 ∷ []

-- what calls that were all taken leave of an empty house
abbrev pub left_by : List Call → Contents
left_by past = record { tables = entered past; seats = six (λ s. seat_on s past) }

-- the calls that are taken: each finds what those before it left
unfoldable pub taken_of : List Call → List Call
taken_of [] = []
taken_of (c ∷ past) = cond (refuses_call (left_by (taken_of past)) c) (taken_of past) (c ∷ taken_of past)

-- what the calls are answered, in the same order
unfoldable pub replies : List Call → List (Result Reply Refusal)
replies [] = []
replies (c ∷ past) = reply (left_by (taken_of past)) c ∷ replies past

-- what a list of calls leaves of an empty house, call by call
pub data Leaves : List Call → Contents → Type 0 where
  nothing : Leaves [] empty_house
  refused : {past : List Call} {H : Contents} (c : Call) → Leaves past H → refuses_call H c ≡ true → Leaves (c ∷ past) H
  taken : {past : List Call} {H : Contents} (c : Call) → Leaves past H → refuses_call H c ≡ false → Leaves (c ∷ past) (changed H c)

-- a call takes a house that is left by a list of calls to the one that is left by that list and this call
abbrev pub GoesOn : Contents → Call → Contents → Type 0
GoesOn H c K = (past : List Call) → Leaves past H → Leaves (c ∷ past) K
