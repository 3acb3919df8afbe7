use Rattle.std.proofs.Common.{◌≡◌, ℕ, ◌<◌, Bool, ◌&&◌, ◌||◌, eqb, ltb, sym, refl, ap, ◌∙◌, arith, rules, length-set, get_or-take}
use Rattle.std.proofs.lemmas.Bool.Decides.{nat_tests}
use Rattle.std.proofs.lemmas.List.{set-get_or, get_or_append_left}
use Rattle.dense.specs.declared.row.Row.{Row}
use Rattle.std.proofs.lemmas.Bool.{lt-ltb}
use Rattle.lts.specs.Machines.{implies, weak_step}
use Rattle.dense.specs.Rows.{in_row, none}
use Rattle.dense.specs.Sounds.{meaning_sound}
use Rattle.ranks.specs.Boards.{module_of, contract_of}
use Rattle.ranks.specs.Steps.{in_rows, answered}
use Rattle.ranks.proofs.Narrowing.{narrowed_alike, kept, kept_more, kept_same}
use Rattle.ranks.proofs.Stepping.{steps_single}
use Rattle.ranks.proofs.sides.Sides.strike_label.Goals as goal
use Rattle.ranks.proofs.sides.Sides.strike_label.Goals.{then-has, else-has}

-- no state is asked yet
first : (a m x : Bool) (p : ℕ) → a ≡ (a && implies (ltb p 0 && m) x)
first a m x p = grind (arith, nat_tests)

pub loop-p-init : goal.loop-p-init
loop-p-init c =
    let s = c.args.self.now.«module».sized in (
      search rules,
      record {
        next = λ p q h l. ap (λ (r : Row). in_row r q) (get_or-take c.args.self.now.«module».size c.args.board.now.next p none (omega arith)) ∙ first (in_rows c.args.board.now.next p q) (in_row c.steps_into-movers.result p) (in_row c.steps_into-answers.result q) p;
        stands = refl;
        changed = refl;
      },
    )

pub loop-p-preserved : goal.loop-p-preserved
loop-p-preserved c =
    let M = module_of c.args.self.now in
    let N = contract_of c.args.self.now in
    let i = c.loop-p.p in
    let was = c.args.board.now in
    let b = record was { next = c.loop-p.next-items } in
    let mov = in_row c.steps_into-movers.result in
    let ans = in_row c.steps_into-answers.result in
    elim c.if-has.branch [
      | then-has w ↦ rw w.next-items-is (
        length-set _ _ _ ∙ c.loop-p.invariant.0,
        kept_more M N mov ans i was b c.loop-p.invariant.1 w.both.result (omega (arith, c.loop-p.auto.next-items, c.loop-p-test.true)) (sym w.if-has.ensures) w.both.ensures,
      )
      | else-has w ↦ rw (w.next-items-is, set-get_or c.loop-p.next-items i none) (c.loop-p.invariant.0, kept_same M N mov ans i was b c.loop-p.invariant.1 (sym w.if-has.ensures))
    ]

pub returns : goal.returns
unfolding answered
returns c =
    let M = module_of c.args.self.now in
    let N = contract_of c.args.self.now in
    let s = c.args.state in
    let k = c.args.label in
    let mov = in_row c.steps_into-movers.result in
    let ans = in_row c.steps_into-answers.result in
    let few = (meaning_sound c.args.self.now.«module».machine.now).small in
    let size = c.args.self.now.«module».sized in
    let sizes = c.args.self.now.contract.sized in
    let h : s < M.size = c.requires in
    let was = c.args.board.now in
    let b = record was { next = c.loop-p.next-items } in
    let done = narrowed_alike M N (kept mov ans c.loop-p.p) (λ p q. answered M N (in_rows was.stands) p q s k) was b
    (λ p q i l.
    ap (λ (b : Bool). implies (b && mov p) (ans q)) (lt-ltb p c.loop-p.p (let x = c.loop-p-test.false in let y = c.loop-p.auto.next-items in let z = c.loop-p.invariant.0 in omega arith))
    ∙ ap (λ (b : Bool). implies b (ans q)) (c.steps_into-movers.ensures p (omega arith) ∙ steps_single M k p s (in_row c.with.result) h (λ v x. c.with.ensures v (omega arith) ∙ ap (λ (b : Bool). b || eqb s v) (c.empty.ensures v)))
    ∙ ap (λ (b : Bool). implies (weak_step M p k s) b) (c.steps_into-answers.ensures q (omega arith)))
    c.loop-p.invariant.1 in
    record {
      next = λ p q h l. ap (λ (r : Row). in_row r q) (get_or_append_left c.loop-p.next-items _ none p (let z = c.loop-p.invariant.0 in omega arith)) ∙ done.next p q h l;
      stands = refl;
      changed = refl;
    }
