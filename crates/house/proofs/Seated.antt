-- What the invariant says of one seat.
use Rattle.std.proofs.Common.{◌≡◌, ℕ, ◌<◌, ◌≤◌, true, ◌&&◌, ltb, List, length, sym, refl, ap, ◌∙◌, arith}
use Rattle.std.proofs.lemmas.Bool.{and_parts, true≢false}
use Rattle.std.specs.List.{All}
use Rattle.std.proofs.lemmas.List.Sums.{AllPass-from_list_all}
use Rattle.table.specs.Table.{Listing}
use Rattle.house.specs.declared.house.House.{House}
use Rattle.calls.specs.declared.seat.Seat.{Seat}
use Rattle.calls.specs.declared.seat.Seat.TheVariants.{Empty, Contract, Fitted}
use Rattle.calls.specs.Seats.{has_contract, contract}
use Rattle.calls.specs.Contents.{empty_house, seat_at, machine_at, pile_machine}
use Rattle.house.specs.Stored.{seat_in, helper_in, judged_yes}
use Rattle.house.specs.Means.{means}

contract_in : (ts : List Listing) (x : Seat) → has_contract x ≡ true → seat_in ts x ≡ true → ltb (contract x) (length ts) ≡ true
contract_in ts Empty e h = absurd (true≢false (sym e))
contract_in ts (Contract c) e h = h
contract_in ts (Fitted c p) e h =
    (and_parts (ltb c (length ts))
    (ltb p.table (length ts) && (helper_in (length ts) p.helper && judged_yes (pile_machine ts p) (machine_at ts c))) h).0

-- a contract on a seat is a table
pub contract_there : (h : House) (s : ℕ) (x : Seat) → s ≤ 5 → seat_at (means h) s ≡ x → has_contract x ≡ true →
    ltb (contract x) (length (means h).tables) ≡ true
contract_there h s x l i e =
    let k : s < length h.seats = omega arith in
    contract_in (means h).tables x e (ap (seat_in (means h).tables) (sym i) ∙ h.within.1 s Empty k)

-- seats with nothing on them are in order, whatever the tables
pub empty_seats : (ts : List Listing) → All (λ x. seat_in ts x ≡ true) empty_house.seats
empty_seats ts = AllPass-from_list_all (seat_in ts) empty_house.seats refl
