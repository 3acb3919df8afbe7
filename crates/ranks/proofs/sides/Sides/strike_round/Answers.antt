use Rattle.std.proofs.Common.{◌≡◌, ℕ, ◌<◌, ◌&&◌, ltb, refl, arith}
use Rattle.lts.specs.Machines.{some_below}
use Rattle.dense.specs.Rows.{in_row}
use Rattle.dense.specs.Sounds.{meaning_sound}
use Rattle.clauses.proofs.Reading.{pairs_same}
use Rattle.ranks.specs.Boards.{module_of, contract_of}
use Rattle.ranks.specs.Marks.{Marked}
use Rattle.ranks.specs.Rounds.{ranks_of}
use Rattle.ranks.specs.Steps.{in_rows, lost}
use Rattle.ranks.proofs.Boards.{more_is, board_next, ranks_next}
use Rattle.ranks.proofs.sides.Sides.strike_round.Goals as goal

pub mark_rows-requires : goal.mark_rows-requires
mark_rows-requires c =
    let s = c.args.self.now.«module» in
    let t = c.args.self.now.contract in
    let n = s.sized in
    let m = t.sized in
    let a = (meaning_sound s.machine.now).small in
    let b = (meaning_sound t.machine.now).small in
    let e = pairs_same (module_of c.args.self.now) (contract_of c.args.self.now) s.size t.size n m in
    record { room = omega (arith, c.requires.room); few = (omega arith, omega arith) }

pub returns : goal.returns
returns c =
    let s = c.args.self.now in
    let M = module_of s in
    let N = contract_of s in
    let was = c.args.ranks.now in
    let w = c.mark_rows.new.ranks in
    let ranks = ranks_of M N was in
    let b = c.args.board.now in
    let next = c.strike_changed.new.board in
    let done = c.strike_changed.ensures in
    let k = c.args.round in
    let d = c.mark_rows.new.self in
    let e = c.mark_rows.ensures in
    let marked : Marked N.size k (λ p q. ltb p M.size && lost b.stands next.next p q) was w = rw (s.«module».sized, s.contract.sized, done.stands) at e.marked in
    let told : (p : ℕ) → p < 256 → in_row d.changed p ≡ (ltb p M.size && some_below N.size (lost b.stands next.next p)) = rw (s.«module».sized, s.contract.sized, done.stands) at e.changed in
    let stand : (p q : ℕ) → p < M.size → q < N.size → in_rows d.stands p q ≡ (in_rows b.stands p q && in_rows next.next p q) = rw (s.«module».sized, s.contract.sized, done.stands) at e.stands in
    let small = (meaning_sound s.«module».machine.now).small in
    let struck = ranks_next M N ranks b next c.requires.board done k was w refl marked in
    record {
      ranks = struck;
      more = more_is M N ranks b next c.requires.board done d.changed small told;
      board = rw struck (board_next M N ranks b next c.requires.board done d small e.next stand told k c.requires.counts);
    }
