use Rattle.std.proofs.Common.{◌≡◌, length}
use Rattle.dense.specs.Rows.{in_row}
use Rattle.ranks.specs.Boards.{module_of, contract_of, Narrowed}
use Rattle.ranks.proofs.Narrowing.{kept}
use Rattle.ranks.proofs.sides.Sides.strike_label.Given as goal

abbrev pub invariant-loop-p : goal.invariant-loop-p
invariant-loop-p l =
    (length l.next-items ≡ l.self.«module».size)
    × Narrowed (module_of l.self) (contract_of l.self) (kept (in_row l.movers) (in_row l.answers) l.p) l.fn.board (record l.fn.board { next = l.next-items })
