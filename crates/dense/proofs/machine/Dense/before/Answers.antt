use Rattle.std.proofs.Common.{◌≡◌, Bool, true, ◌&&◌, ltb, rules, sym, ap, ◌∙◌, ⊎_elim, arith}
use Rattle.std.proofs.lemmas.Bool.{lt-ltb, cases_Bool}
use Rattle.lts.specs.Machines.{some_below}
use Rattle.source.specs.Tables.{table_size}
use Rattle.dense.specs.Rows.{in_row}
use Rattle.dense.specs.Copies.{row_at, meaning, moves_into}
use Rattle.dense.specs.Sounds.{meaning_sound}
use Rattle.dense.proofs.Tests.{implied}
use Rattle.dense.proofs.Copied.{row_meets, moves_within}
use Rattle.dense.proofs.machine.Dense.before.Goals as goal

-- nothing moves on what is no label
pub returns-then-label-gt-TAU : goal.returns-then-label-gt-TAU
returns-then-label-gt-TAU c = λ p _.
    let M = meaning c.args.self.now in
    c.empty.ensures p
    ∙ sym (⊎_elim
    (λ (t : moves_into M c.args.label (in_row c.args.states) p ≡ true).
    absurd (let w = (moves_within M c.args.label (in_row c.args.states) p (meaning_sound c.args.self.now) t).1 in let k = c.if-label-gt-TAU.true in omega arith))
    (λ t. t)
    (cases_Bool (moves_into M c.args.label (in_row c.args.states) p)))

pub returns : goal.returns
unfolding moves_into
returns c = λ p h.
    let d = c.args.self.now in
    let n = table_size d.extent.states d.extent.start in
    let l = c.args.label in
    let X = in_row c.args.states in
    let inside = c.both-inside.result in
    let sound = meaning_sound d in
    let small = sound.small in
    let count = c.count-n.ensures in
    c.of.ensures.by_test (moves_into (meaning d) l X)
    (λ p b k _ e.
    let told : b ≡ some_below 256 (λ q. in_row (row_at d.rows p l) q && in_row inside q) = search rules in
    told ∙ row_meets n p l d.rows (omega arith) (let y = c.if-label-gt-TAU.false in omega arith) (omega arith) X inside
    (λ q i. c.both-inside.ensures q ∙ ap (λ (b : Bool). X q && b) (c.below.ensures q i ∙ ap (ltb q) count)))
    p h
    ∙ implied _ _ (λ t. let w = (moves_within (meaning d) l X p sound t).0 in lt-ltb p c.count-n.result (omega arith))
