-- How a house lies in memory: what its arrays keep to.
use Rattle.std.specs.Prelude.{◌≡◌, ℕ, ◌+◌, ◌≤◌, Bool, true, false, not, ◌&&◌, List, map, length, take, drop, Some, None, Option, ◌==◌, nat_lt}
use Rattle.std.specs.List.{All, sum_by}
use Rattle.lts.specs.Machines.{Machine}
use Rattle.source.specs.declared.table.Move.{Move}
use Rattle.table.specs.Table.{Listing}
use Rattle.judge.specs.declared.verdict.Answer.{Answer}
use Rattle.judge.specs.declared.verdict.Answer.TheVariants.{Yes, No}
use Rattle.judge.specs.Verdicts.{answer}
use Rattle.house.specs.declared.house.Entry.{Entry}
use Rattle.calls.specs.declared.seat.Seat.{Seat}
use Rattle.calls.specs.declared.seat.Seat.TheVariants.{Empty, Contract, Fitted}
use Rattle.calls.specs.Contents.{machine_at, pile_machine}

-- a table, as its entry tells
abbrev pub listing : List Move → Entry → Listing
listing ms e = record { states = e.states; start = e.start; moves = take e.count (drop e.first ms) }

abbrev pub listings : List Move → List Entry → List Listing
listings ms es = map (listing ms) es

abbrev pub is_yes : Answer → Bool
is_yes Yes = true
is_yes (No round c) = false

-- neither machine is too large, and the answer on them is yes
abbrev pub judged_yes : Machine → Machine → Bool
judged_yes M N = not (M.size == 0) && (not (N.size == 0) && is_yes (answer M N))

-- whether a helper that is named is a table
abbrev pub helper_in : ℕ → Option ℕ → Bool
helper_in n None = true
helper_in n (Some h) = nat_lt h n

-- the tables that a seat names are there, and its pile was judged to conform to its contract
abbrev pub seat_in : List Listing → Seat → Bool
seat_in ts Empty = true
seat_in ts (Contract c) = nat_lt c (length ts)
seat_in ts (Fitted c p) =
    nat_lt c (length ts)
    && (nat_lt p.table (length ts)
    && (helper_in (length ts) p.helper
    && judged_yes (pile_machine ts p) (machine_at ts c)))

abbrev pub Wide : List Move → List Seat → Type 0
Wide moves seats = (length moves ≡ 1024) × (length seats ≡ 6)

-- the moves of each entry lie among those in use, and the entries take up just these
abbrev pub Within : List Move → ℕ → List Entry → List Seat → Type 0
Within moves used entries seats =
    All (λ e. e.first + e.count ≤ used) entries
    × All (λ x. seat_in (listings moves entries) x ≡ true) seats
    × (sum_by (λ e. e.count) entries ≡ used)
