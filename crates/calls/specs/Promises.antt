-- The promise: a fitted house gets stuck only where its contracts can, whatever stands beside it.
use Rattle.std.specs.Prelude.{ℕ, List, [], ◌∷◌, Some, None, Option}
use Rattle.lts.specs.Labels.{member}
use Rattle.lts.specs.Systems.{Lts}
use Rattle.lts.specs.Operators.{restrict, parallel}
use Rattle.lts.specs.Machines.{system_of}
use Rattle.lts.specs.Contexts.{row}
use Rattle.lts.specs.Laws.{StuckOnlyIf}
use Rattle.table.specs.Table.{Listing}
use Rattle.calls.specs.declared.seat.Pile.{Pile}
use Rattle.calls.specs.declared.seat.Seat.{Seat}
use Rattle.calls.specs.declared.seat.Seat.TheVariants.{Empty, Contract, Fitted}
use Rattle.calls.specs.Contents.{Contents, machine_at}
use Rattle.calls.specs.Calls.{Call}
use Rattle.calls.specs.Histories.{left_by, taken_of}

-- the system of table c
abbrev pub table_system : List Listing → ℕ → Lts
table_system ts c = system_of (machine_at ts c)

-- a table, beside its helper if it has one: the states are pairs
abbrev pub helped_system : List Listing → ℕ → Option ℕ → Lts
helped_system ts m None = table_system ts m
helped_system ts m (Some h) = parallel (table_system ts m) (table_system ts h)

-- without the moves on the hidden names
abbrev pub pile_system : List Listing → Pile → Lts
pile_system ts p = restrict (member p.hidden.0) (helped_system ts p.table p.helper)

-- the seats in order, each as its contract; an empty one is left out
abbrev pub as_contracts : List Listing → List Seat → List Lts
as_contracts ts [] = []
as_contracts ts (Empty ∷ ss) = as_contracts ts ss
as_contracts ts (Contract c ∷ ss) = table_system ts c ∷ as_contracts ts ss
as_contracts ts (Fitted c p ∷ ss) = table_system ts c ∷ as_contracts ts ss

-- the same, each as its fitted pile, or as its contract where nothing is fitted
abbrev pub as_fitted : List Listing → List Seat → List Lts
as_fitted ts [] = []
as_fitted ts (Empty ∷ ss) = as_fitted ts ss
as_fitted ts (Contract c ∷ ss) = table_system ts c ∷ as_fitted ts ss
as_fitted ts (Fitted c p ∷ ss) = pile_system ts p ∷ as_fitted ts ss

-- on every set of names, the seats beside the environment E can get stuck as fitted only if they can as contracts
abbrev pub StuckOnlyWhereContractsCan : Lts → Contents → Type 0
StuckOnlyWhereContractsCan E H =
    StuckOnlyIf (row E (as_fitted H.tables H.seats)) (row E (as_contracts H.tables H.seats))

-- the same of what a list of calls leaves, the last call first
abbrev pub Promise : Lts → List Call → Type 0
Promise E calls = StuckOnlyWhereContractsCan E (left_by (taken_of calls))

-- an environment of one state that makes no move
abbrev pub nobody : Lts
nobody = record { state = Unit {0}; start = tt; move = λ _ _ _. ⊥ }
