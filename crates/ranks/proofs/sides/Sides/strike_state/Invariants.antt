use Rattle.std.proofs.Common.{◌≡◌, ◌++◌}
use Rattle.std.specs.List.{list_all}
use Rattle.labels.specs.Sets.{members}
use Rattle.ranks.specs.Boards.{module_of, contract_of, Narrowed}
use Rattle.ranks.specs.Steps.{in_rows, answered}
use Rattle.ranks.proofs.sides.Sides.strike_state.Given as goal

abbrev pub invariant-loop-label : goal.invariant-loop-label
invariant-loop-label l =
    (members l.initial.label-iterator.left.0 ≡ l.yielded ++ members l.label-iterator.left.0)
    × Narrowed (module_of l.self) (contract_of l.self) (λ p q. list_all (answered (module_of l.self) (contract_of l.self) (in_rows l.initial.board.stands) p q l.state) l.yielded) l.initial.board l.board
