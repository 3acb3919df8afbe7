use Rattle.std.proofs.Common.{ℕ, ◌+◌, Bool, ◌&&◌, eqb, ltb, arith}
use Rattle.std.proofs.lemmas.Bool.Decides.{nat_tests}
use Rattle.dense.specs.Rows.{in_row}
use Rattle.ranks.proofs.Marking.{mark_none, mark_same, mark_more}
use Rattle.ranks.proofs.marks.mark_row.Goals as goal
use Rattle.ranks.proofs.marks.mark_row.Goals.{then-has, else-has}

pub loop-q-init : goal.loop-q-init
loop-q-init c = mark_none _ _ _ _ (λ a b h. grind (arith, nat_tests))

pub put_rank-requires : goal.put_rank-requires
put_rank-requires c = let z = c.loop-q.invariant.len in let y = c.requires in let x = c.loop-q-test.true in omega arith

pub loop-q-preserved : goal.loop-q-preserved
loop-q-preserved c =
    let p = c.args.p in
    let q = c.loop-q.q in
    let m = c.args.m in
    let f = in_row c.args.struck in
    let was = c.args.ranks.now in
    let w0 = c.loop-q.ranks in
    let k = c.args.round in
    let one : ℕ → ℕ → Bool = λ a b. eqb a p && (ltb b q && f b) in
    let two : ℕ → ℕ → Bool = λ a b. eqb a p && (ltb b (q + 1) && f b) in
    elim c.if-has.branch [
      | then-has w ↦
          rw (w.ranks-is, w.put_rank.ensures)
          (mark_more m k was one two w0 c.loop-q.invariant p q c.loop-q-test.true
          (let z = c.loop-q.invariant.len in let y = c.requires in let x = c.loop-q-test.true in omega arith)
          (let t = w.if-has.ensures in grind (arith, nat_tests))
          (λ a b h d. grind (arith, nat_tests)))
      | else-has w ↦ rw w.ranks-is (mark_same m k was one two w0 c.loop-q.invariant (λ a b h. let t = w.if-has.ensures in grind (arith, nat_tests)))
    ]

pub returns : goal.returns
returns c =
    let y = c.loop-q-test.false in
    mark_same c.args.m c.args.round c.args.ranks.now _ _ c.loop-q.ranks c.loop-q.invariant (λ a b h. grind (arith, nat_tests))
