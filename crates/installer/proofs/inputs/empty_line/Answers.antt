use Rattle.std.proofs.Common.{◌≡◌, Bool, false, ◌&&◌, eqb, get_or, ap, ◌∙◌, arith}
use Rattle.std.proofs.lemmas.Bool.{and_from, eq-eqb, ne_eqb}
use Rattle.installer.proofs.Gaps.{gap_here, gap_on, gap_end}
use Rattle.installer.proofs.inputs.empty_line.Goals as goal
use Rattle.installer.proofs.inputs.empty_line.Goals.{else-fresh-via-then-fresh+else-ends, else-fresh-via-else-fresh}

pub returns-then-ends : goal.returns-then-ends
returns-then-ends c =
    let xs = c.args.input.now in
    let i = c.loop-at.at in
    record {
      value = omega (arith, c.loop-at.invariant, gap_here c.loop-at.fresh xs i c.loop-at-test.true (and_from _ _ c.if-fresh.true (eq-eqb _ _ c.if-ends.true)));
      within = omega arith;
    }

pub loop-at-preserved : goal.loop-at-preserved
loop-at-preserved c =
    let xs = c.args.input.now in
    let i = c.loop-at.at in
    let kept : (c.loop-at.fresh && eqb (get_or xs i 0) 10) ≡ false =
    elim c.else-fresh.branch [
      | else-fresh-via-then-fresh+else-ends w ↦ ap (λ (b : Bool). b && eqb (get_or xs i 0) 10) w.if-fresh.true ∙ ne_eqb (get_or xs i 0) 10 w.if-ends.false
      | else-fresh-via-else-fresh w ↦ ap (λ (b : Bool). b && eqb (get_or xs i 0) 10) w.if-fresh.false
    ] in
    omega (arith, c.loop-at.invariant, gap_on c.loop-at.fresh xs i c.loop-at-test.true kept)

pub returns : goal.returns
returns c =
    record { value = omega (arith, c.loop-at.invariant, gap_end c.loop-at.fresh c.args.input.now c.loop-at.at c.loop-at-test.false); within = omega arith }
