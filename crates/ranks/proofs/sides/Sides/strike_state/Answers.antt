use Rattle.std.proofs.Common.{◌≡◌, Bool, get_or, sym, ap, ◌∙◌, rules}
use Rattle.std.specs.List.{list_all}
use Rattle.lts.specs.Machines.{implies}
use Rattle.labels.specs.Sets.{members}
use Rattle.ranks.specs.Boards.{module_of, contract_of}
use Rattle.ranks.specs.Steps.{in_rows, no_labels, steps_into, answered}
use Rattle.ranks.proofs.Narrowing.{narrowed_alike}
use Rattle.ranks.proofs.Stepping.{no_step, each_member}
use Rattle.ranks.proofs.sides.Sides.strike_state.Goals as goal

pub returns : goal.returns
unfolding answered
returns c =
    let M = module_of c.args.self.now in
    let N = contract_of c.args.self.now in
    let s = c.args.state in
    let S = in_rows c.args.board.now.stands in
    let x = (get_or c.args.self.now.arriving s no_labels).0 in
    let all : c.loop-label.yielded ≡ members x = search rules in
    narrowed_alike M N _ _ c.args.board.now c.loop-label.board
    (λ p q h l.
    ap (list_all (answered M N S p q s)) all
    ∙ each_member x (answered M N S p q s)
    (λ k i e. ap (λ (b : Bool). implies b (steps_into N (S s) k q)) (no_step M p k s (sym (c.args.self.now.arrives s k c.requires i) ∙ e))))
    c.loop-label.invariant.1
