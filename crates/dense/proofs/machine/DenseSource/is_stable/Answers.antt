use Rattle.std.proofs.Common.{Bool, not, ◌&&◌, ltb, sym, ap, ◌∙◌, arith}
use Rattle.std.proofs.lemmas.Bool.{lt-ltb}
use Rattle.lts.specs.Machines.{initial}
use Rattle.dense.specs.Copies.{meaning}
use Rattle.dense.specs.Sounds.{meaning_sound}
use Rattle.dense.proofs.Copied.{row_some}
use Rattle.dense.proofs.machine.DenseSource.is_stable.Goals as goal

pub returns-then-p-n : goal.returns-then-p-n
unfolding initial
returns-then-p-n c =
    let d = c.args.self.now in
    let n = c.count-n.result in
    let M = meaning d in
    let small = (meaning_sound d).small in
    ap not (c.meets.ensures ∙ row_some M.size c.args.p 64 d.rows (let z = c.count-n.ensures in let y = c.if-p-n.true in omega arith) (omega arith) (omega arith) c.below.result (λ q h. c.below.ensures q h ∙ ap (ltb q) c.count-n.ensures))
    ∙ sym (ap (λ (b : Bool). b && not (initial M c.args.p 64)) (lt-ltb c.args.p M.size (let z = c.count-n.ensures in let y = c.if-p-n.true in omega arith)))
