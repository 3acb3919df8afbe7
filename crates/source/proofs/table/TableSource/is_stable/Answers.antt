use Rattle.std.proofs.Common.{◌≡◌, Bool, true, false, not, ◌&&◌, eqb, ltb, get_or, sym, refl, ap, ◌∙◌}
use Rattle.std.proofs.lemmas.List.{take_all}
use Rattle.std.proofs.lemmas.Bool.{and_from, and_left, and_right, or_from, eq-eqb, ne_eqb, lt-ltb, le-ltb}
use Rattle.source.specs.declared.table.Move.{Move}
use Rattle.source.specs.Tables.{any}
use Rattle.labels.proofs.Bits.{and_true}
use Rattle.source.proofs.Tabled.{blank, leaves, any_more, any_at, table_stable}
use Rattle.source.proofs.table.TableSource.is_stable.Goals as goal
use Rattle.source.proofs.table.TableSource.is_stable.Goals.{else-v-p-via-then-v-p+then-v-n+else-v-eq-TAU, else-v-p-via-then-v-p+else-v-n, else-v-p-via-else-v-p}

pub loop-v-preserved : goal.loop-v-preserved
loop-v-preserved c =
    let p = c.args.p in
    let n = c.count-n.result in
    let vs = c.args.self.now.moves.now in
    let i = c.loop-v.v-index in
    let v : Move = get_or vs i blank in
    let A = eqb v.from p in
    let B = ltb v.to n in
    let C = eqb v.label 64 in
    let other : leaves n p 64 v ≡ false =
    elim c.else-v-p.branch [
      | else-v-p-via-then-v-p+then-v-n+else-v-eq-TAU w ↦ and_right A (B && C) (and_right B C (ne_eqb v.label 64 w.if-v-eq-TAU.false))
      | else-v-p-via-then-v-p+else-v-n w ↦ and_right A (B && C) (and_left B C (le-ltb v.to n w.if-v-n.false))
      | else-v-p-via-else-v-p w ↦ and_left A (B && C) (ne_eqb v.from p w.if-v-p.false)
    ]
    in
    any_more (leaves n p 64) vs i blank c.loop-v-test.true ∙ or_from _ _ c.loop-v.invariant other

pub returns-then-v-eq-TAU : goal.returns-then-v-eq-TAU
returns-then-v-eq-TAU c =
    let p = c.args.p in
    let n = c.count-n.result in
    let vs = c.args.self.now.moves.now in
    let i = c.loop-v.v-index in
    let v : Move = get_or vs i blank in
    let found : any (leaves n p 64) vs ≡ true =
    any_at (leaves n p 64) vs i blank c.loop-v-test.true
    (and_from (eqb v.from p) (ltb v.to n && eqb v.label 64) (eq-eqb v.from p c.if-v-p.true)
    (and_from (ltb v.to n) (eqb v.label 64) (lt-ltb v.to n c.if-v-n.true) (eq-eqb v.label 64 c.if-v-eq-TAU.true)))
    in
    sym (table_stable c.args.self.now.states c.args.self.now.start vs p n c.count-n.ensures
    ∙ ap (λ (b : Bool). ltb p n && not b) found ∙ and_right (ltb p n) false refl)

pub returns : goal.returns
returns c =
    let p = c.args.p in
    let n = c.count-n.result in
    let vs = c.args.self.now.moves.now in
    let none : any (leaves n p 64) vs ≡ false = ap (any (leaves n p 64)) (sym (take_all c.loop-v.v-index vs c.loop-v-test.false)) ∙ c.loop-v.invariant in
    sym (table_stable c.args.self.now.states c.args.self.now.start vs p n c.count-n.ensures
    ∙ ap (λ (b : Bool). ltb p n && not b) none ∙ and_true (ltb p n))
