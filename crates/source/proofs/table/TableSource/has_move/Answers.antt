use Rattle.std.proofs.Common.{◌≡◌, false, ◌&&◌, eqb, get_or, ◌∙◌}
use Rattle.std.proofs.lemmas.Bool.{and_left, and_right, or_from, ne_eqb}
use Rattle.source.specs.declared.table.Move.{Move}
use Rattle.source.specs.Tables.{is_move}
use Rattle.source.proofs.Tabled.{blank, any_more}
use Rattle.source.proofs.table.TableSource.has_move.Goals as goal
use Rattle.source.proofs.table.TableSource.has_move.Goals.{else-v-p-via-then-v-p+then-v-label+else-v-q, else-v-p-via-then-v-p+else-v-label, else-v-p-via-else-v-p}

pub loop-v-preserved : goal.loop-v-preserved
loop-v-preserved c =
    let f = is_move c.args.p c.args.label c.args.q in
    let vs = c.args.self.now.moves.now in
    let i = c.loop-v.v-index in
    let v : Move = get_or vs i blank in
    let A = eqb v.from c.args.p in
    let B = eqb v.label c.args.label in
    let C = eqb v.to c.args.q in
    let other : f v ≡ false =
    elim c.else-v-p.branch [
      | else-v-p-via-then-v-p+then-v-label+else-v-q w ↦ and_right A (B && C) (and_right B C (ne_eqb v.to c.args.q w.if-v-q.false))
      | else-v-p-via-then-v-p+else-v-label w ↦ and_right A (B && C) (and_left B C (ne_eqb v.label c.args.label w.if-v-label.false))
      | else-v-p-via-else-v-p w ↦ and_left A (B && C) (ne_eqb v.from c.args.p w.if-v-p.false)
    ]
    in
    any_more f vs i blank c.loop-v-test.true ∙ or_from _ _ c.loop-v.invariant other
