use Rattle.std.proofs.Common.{ℕ, Bool, ap, sym, subst}
use Rattle.lts.specs.Machines.{implies}
use Rattle.dense.specs.Rows.{in_row}
use Rattle.ranks.specs.Boards.{module_of, contract_of, Narrowed}
use Rattle.ranks.specs.Steps.{in_rows, all_answered}
use Rattle.ranks.proofs.Narrowing.{narrowed_start, narrowed_more, narrowed_skip}
use Rattle.ranks.proofs.sides.Sides.strike_changed.Goals as goal
use Rattle.ranks.proofs.sides.Sides.strike_changed.Goals.{then-has, else-has}

pub loop-state-init : goal.loop-state-init
loop-state-init c = narrowed_start _ _ _ _

pub loop-state-preserved : goal.loop-state-preserved
loop-state-preserved c =
    let M = module_of c.args.self.now in
    let N = contract_of c.args.self.now in
    let k = c.loop-state.state in
    let was = c.args.board.now in
    let b = c.loop-state.board in
    let done = c.loop-state.invariant in
    let f : ℕ → ℕ → ℕ → Bool = λ p q p'. implies (in_row was.changed p') (all_answered M N (in_rows was.stands) p q p') in
    elim c.if-has.branch [
      | then-has w ↦
          let now = w.strike_state.new.board in
          rw w.board-is (narrowed_more M N f k was b done now
          (subst (λ x. Narrowed M N (λ p q. implies x (all_answered M N (in_rows was.stands) p q k)) b now) w.if-has.ensures
          (subst (λ x. Narrowed M N (λ p q. all_answered M N (in_rows x) p q k) b now) done.stands w.strike_state.ensures)))
      | else-has w ↦ rw w.board-is (narrowed_skip M N f k was b done (λ p q. ap (λ (x : Bool). implies x (all_answered M N (in_rows was.stands) p q k)) (sym w.if-has.ensures)))
    ]
