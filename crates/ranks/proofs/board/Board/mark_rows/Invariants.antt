use Rattle.std.proofs.Common.{◌≡◌, ℕ, ◌<◌, not, ◌&&◌, ltb, length}
use Rattle.lts.specs.Machines.{some_below}
use Rattle.dense.specs.Rows.{in_row}
use Rattle.ranks.specs.Marks.{Marked}
use Rattle.ranks.specs.Steps.{in_rows, lost}
use Rattle.ranks.proofs.board.Board.mark_rows.Given as goal

abbrev pub invariant-loop-p : goal.invariant-loop-p
invariant-loop-p l = record {
  marked : Marked l.m l.round (λ a b. ltb a l.p && lost l.initial.self.stands l.initial.self.next a b) l.initial.ranks l.ranks;
  changed : (x : ℕ) → x < 256 → in_row l.changed x ≡ (ltb x l.p && some_below l.m (lost l.initial.self.stands l.initial.self.next x));
  next : l.self.next ≡ l.initial.self.next;
  long : length l.self.stands ≡ 255;
  stands : (a b : ℕ) → b < 256 → in_rows l.self.stands a b ≡ (in_rows l.initial.self.stands a b && not (ltb a l.p && (lost l.initial.self.stands l.initial.self.next a b && ltb b l.m)));
}
