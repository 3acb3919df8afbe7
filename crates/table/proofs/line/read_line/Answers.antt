use Rattle.std.proofs.Common.{◌≡◌, ◌<◌, length, ap, arith}
use Rattle.std.proofs.lemmas.Grind.{common_steps}
use Rattle.table.specs.declared.line.Kind.{Kind}
use Rattle.table.specs.Text.{pieces}
use Rattle.table.specs.Table.{kind_of}
use Rattle.table.proofs.Shapes.{field, move_line_by}
use Rattle.table.proofs.line.read_line.Goals as goal

pub returns-in-AfterHead-Move : goal.returns-in-AfterHead-Move
returns-in-AfterHead-Move c =
    let fs = c.fields_of-fields.result.items in
    let l : 0 < length fs = omega (arith, c.in-len1-up.len_at_least, ap length c.as_slice.ensures.value) in
    let k : kind_of (field fs 0) ≡ Kind.Move = cc in
    let e = move_line_by c.in-AfterHead-Move.head.states c.args.line fs (pieces 44 c.args.bytes.now) c.fields_of-fields.ensures l k in
    let m = c.move_of.ensures in
    rw c.in-AfterHead-Move.is-0 (grind (arith, common_steps))
