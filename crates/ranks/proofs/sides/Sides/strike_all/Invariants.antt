use Rattle.std.proofs.Common.{◌-◌, ◌*◌}
use Rattle.ranks.specs.Boards.{module_of, contract_of, BeforeRound}
use Rattle.ranks.specs.Rounds.{ranks_of}
use Rattle.ranks.proofs.Running.{Running}
use Rattle.ranks.proofs.sides.Sides.strike_all.Given as goal

abbrev pub invariant-loop-board : goal.invariant-loop-board
invariant-loop-board l =
    Running (module_of l.self) (contract_of l.self) (ranks_of (module_of l.self) (contract_of l.self) l.ranks) l.done
    × BeforeRound (module_of l.self) (contract_of l.self) (ranks_of (module_of l.self) (contract_of l.self) l.ranks) l.board

abbrev pub decreases-loop-board : goal.decreases-loop-board
decreases-loop-board l = l.self.«module».size * l.self.contract.size - l.done
