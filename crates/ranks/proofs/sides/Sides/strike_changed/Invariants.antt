use Rattle.lts.specs.Machines.{each_below, implies}
use Rattle.dense.specs.Rows.{in_row}
use Rattle.ranks.specs.Boards.{module_of, contract_of, Narrowed}
use Rattle.ranks.specs.Steps.{in_rows, all_answered}
use Rattle.ranks.proofs.sides.Sides.strike_changed.Given as goal

abbrev pub invariant-loop-state : goal.invariant-loop-state
invariant-loop-state l =
    Narrowed (module_of l.self) (contract_of l.self)
    (λ p q. each_below l.state (λ p'. implies (in_row l.changed p') (all_answered (module_of l.self) (contract_of l.self) (in_rows l.initial.board.stands) p q p'))) l.initial.board l.board
