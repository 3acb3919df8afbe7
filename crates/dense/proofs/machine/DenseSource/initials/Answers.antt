use Rattle.std.proofs.Common.{◌≡◌, ◌&&◌, ltb, rules, ap, ◌∙◌, arith}
use Rattle.lts.specs.Labels.{member}
use Rattle.lts.specs.Machines.{initial, some_below}
use Rattle.source.proofs.Initials.{initials_outside}
use Rattle.source.proofs.Masks.{mask_from}
use Rattle.dense.specs.Rows.{in_row}
use Rattle.dense.specs.Copies.{row_at, meaning}
use Rattle.dense.specs.Sounds.{meaning_sound}
use Rattle.dense.proofs.Copied.{row_some}
use Rattle.dense.proofs.machine.DenseSource.initials.Goals as goal

pub returns-then-p-n : goal.returns-then-p-n
returns-then-p-n c =
    let d = c.args.self.now in
    initials_outside (meaning d) c.args.p c.empty.result.0 (meaning_sound d) (let z = c.count-n.ensures in let y = c.if-p-n.true in omega arith) c.empty.ensures

pub returns : goal.returns
unfolding initial
returns c =
    let d = c.args.self.now in
    let M = meaning d in
    let p = c.args.p in
    let all = c.below-all.result in
    let small = (meaning_sound d).small in
    mask_from 64 c.of.result.0 (initial M p) (omega arith)
    (λ k h.
    let t = c.of.ensures k h in
    let told : member c.of.result.0 k ≡ some_below 256 (λ q. in_row (row_at d.rows p k) q && in_row all q) = search rules in
    told ∙ row_some M.size p k d.rows (let z = c.count-n.ensures in let y = c.if-p-n.false in omega arith) (omega arith) (omega arith) all
    (λ q i. c.below-all.ensures q i ∙ ap (ltb q) c.count-n.ensures))
