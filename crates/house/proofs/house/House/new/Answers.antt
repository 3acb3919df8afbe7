use Rattle.std.proofs.Common.{◌≤◌, ◌+◌, refl, arith}
use Rattle.std.proofs.lemmas.List.Elements.{All-nil}
use Rattle.house.specs.declared.house.Entry.{Entry}
use Rattle.house.proofs.Seated.{empty_seats}
use Rattle.house.proofs.house.House.new.Goals as goal

pub invariant_of-result : goal.invariant_of-result
invariant_of-result c =
    let e = c.new.ensures in
    record { wide = (refl, refl); few = (omega arith, rw e (omega arith)); within = (rw e (All-nil (λ (x : Entry). x.first + x.count ≤ 0)), empty_seats _, rw e) }
