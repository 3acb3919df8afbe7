-- What is on a seat.
use Rattle.std.specs.Prelude.{ℕ, Bool, true, false}
use Rattle.calls.specs.declared.seat.Seat.{Seat}
use Rattle.calls.specs.declared.seat.Seat.TheVariants.{Empty, Contract, Fitted}

abbrev pub has_contract : Seat → Bool
has_contract Empty = false
has_contract (Contract c) = true
has_contract (Fitted c p) = true

abbrev pub has_pile : Seat → Bool
has_pile Empty = false
has_pile (Contract c) = false
has_pile (Fitted c p) = true

-- the table that is the contract, where there is one
abbrev pub contract : Seat → ℕ
contract Empty = 0
contract (Contract c) = c
contract (Fitted c p) = c
