-- What a house means: its tables in order, and what is on its seats.
use Rattle.std.specs.Prelude.{ℕ, List, [], ◌∷◌, ◌++◌, length, Some, None, Ok, Err, Option, Result, slice_index_or, slice_set}
use Rattle.std.specs.List.{sum_by}
use Rattle.lts.specs.Machines.{Machine}
use Rattle.lts.specs.Layers.{restrict_machine, parallel_machine}
use Rattle.source.specs.Tables.{table_machine}
use Rattle.table.specs.Table.{Listing}
use Rattle.table.specs.declared.fault.Fault.{Fault}
use Rattle.calls.specs.declared.seat.Pile.{Pile}
use Rattle.calls.specs.declared.seat.Seat.{Seat}
use Rattle.calls.specs.declared.seat.Seat.TheVariants.{Empty}

pub record Contents : Type 0 where
  pub tables : List Listing
  pub seats : List Seat

-- no tables, and six seats with nothing on them
abbrev pub empty_house : Contents
empty_house = record { tables = []; seats = Empty ∷ Empty ∷ Empty ∷ Empty ∷ Empty ∷ Empty ∷ [] }

-- table c; where there is none, no states
abbrev pub table_at : List Listing → ℕ → Listing
table_at ts c = slice_index_or ts c (record { states = 0; start = 0; moves = [] })

abbrev pub machine_of : Listing → Machine
machine_of t = table_machine t.states t.start t.moves

-- the machine of table c
abbrev pub machine_at : List Listing → ℕ → Machine
machine_at ts c = machine_of (table_at ts c)

-- a table, beside its helper if it has one
abbrev pub helped : List Listing → ℕ → Option ℕ → Machine
helped ts m None = machine_at ts m
helped ts m (Some h) = parallel_machine (machine_at ts m) (machine_at ts h)

-- without the moves on the hidden names
abbrev pub pile_machine : List Listing → Pile → Machine
pile_machine ts p = restrict_machine p.hidden.0 (helped ts p.table p.helper)

-- how many places the moves of all tables take
abbrev pub places : List Listing → ℕ
places ts = sum_by (λ t. length t.moves) ts

-- what is on seat s
abbrev pub seat_at : Contents → ℕ → Seat
seat_at H s = slice_index_or H.seats s Empty

-- one table more, if the text is one
abbrev pub one_more : List Listing → Result Listing Fault → List Listing
one_more ts (Ok t) = ts ++ (t ∷ [])
one_more ts (Err f) = ts

abbrev pub with_table : Contents → Result Listing Fault → Contents
with_table H r = record { tables = one_more H.tables r; seats = H.seats }

-- something else on seat s
abbrev pub with_seat : Contents → ℕ → Seat → Contents
with_seat H s x = record { tables = H.tables; seats = slice_set H.seats s x }
