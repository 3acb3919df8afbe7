use Rattle.std.proofs.Common.{◌&&◌, eqb, ltb}
use Rattle.dense.specs.Rows.{in_row}
use Rattle.ranks.specs.Marks.{Marked}
use Rattle.ranks.proofs.marks.mark_row.Given as goal

abbrev pub invariant-loop-q : goal.invariant-loop-q
invariant-loop-q l = Marked l.m l.round (λ a b. eqb a l.p && (ltb b l.q && in_row l.struck b)) l.initial.ranks l.ranks
