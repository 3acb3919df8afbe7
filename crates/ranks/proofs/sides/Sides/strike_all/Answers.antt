use Rattle.std.proofs.Common.{◌≡◌, ℕ, ◌+◌, ◌*◌, ◌<◌, ◌≤◌, Bool, true, false, ◌&&◌, eqb, ltb, List, length, get_or, replicate, sym, ap, ◌∙◌, arith}
use Rattle.std.proofs.lemmas.List.{get_or-replicate}
use Rattle.std.proofs.lemmas.Bool.{lt-ltb, eq-eqb, both_ways, not-true, not-false}
use Rattle.lts.specs.Machines.{Machine, some_below}
use Rattle.lts.specs.Conformance.{passes_refusals}
use Rattle.dense.specs.declared.row.Row.{Row}
use Rattle.dense.specs.Rows.{in_row, none}
use Rattle.dense.specs.Sounds.{meaning_sound}
use Rattle.clauses.proofs.Reading.{pairs_same}
use Rattle.ranks.specs.Boards.{module_of, contract_of, BeforeRound}
use Rattle.ranks.specs.Filled.{laid}
use Rattle.ranks.specs.Rounds.{ranks_of, ranks_after}
use Rattle.ranks.specs.Steps.{in_rows, Covers}
use Rattle.ranks.proofs.After.{ranks_none, pair_in}
use Rattle.ranks.proofs.Filled.{laid_ranks, clear_ranks}
use Rattle.ranks.proofs.Running.{running_start, few, running_more, running_last, running_ranks, rounds_fit}
use Rattle.ranks.proofs.sides.Sides.strike_all.Goals as goal

-- before the first round all pairs stand, and every state counts as changed
first_board : (M N : Machine) (ranks : List ℕ) (next : List Row) (all every : Row) → M.size ≤ 255 → N.size ≤ 255 → ranks ≡ ranks_after M N 0 → Covers M N next →
    ((q : ℕ) → q < 256 → in_row all q ≡ ltb q N.size) → ((p : ℕ) → p < 256 → in_row every p ≡ ltb p M.size) → BeforeRound M N ranks (record { stands = replicate 255 all; next = next; changed = every })
first_board M N ranks next all every small few e covers ea ee =
    let full : (p q : ℕ) → p < M.size → q < N.size → in_rows (replicate 255 all) p q ≡ true =
    (λ p q h l. ap (λ (r : Row). in_row r q) (get_or-replicate 255 p all none (omega arith)) ∙ ea q (omega arith) ∙ lt-ltb q N.size l) in
    record {
      stand = λ p q h l. full p q h l ∙ sym (ap (λ (v : List ℕ). eqb (get_or v (p * N.size + q) 0) 0) e ∙ eq-eqb _ 0 (ranks_none M N (p * N.size + q) (pair_in M N p q h l)));
      cover = λ p q h l. covers p q h l ∙ sym (ap (λ (b : Bool). b && passes_refusals M N p q) (full p q h l));
      settled = λ p q p' h l k t u. absurd (both_ways (in_row every p') u (ee p' (omega arith) ∙ lt-ltb p' M.size k));
    }

pub loop-board-init : goal.loop-board-init
loop-board-init c =
    let s = c.args.self.now in
    let M = module_of s in
    let N = contract_of s in
    let zeros = ap (ranks_of M N) (c.fill.ensures.after (λ y e. e)) ∙ clear_ranks M N (length c.args.ranks.now) c.requires.room in (
      running_start M N (ranks_of M N c.fill.new.self) zeros,
      first_board M N (ranks_of M N c.fill.new.self) c.args.covered c.below.result c.below-2.result (meaning_sound s.«module».machine.now).small (meaning_sound s.contract.machine.now).small zeros c.requires.covers
          (λ q h. c.below.ensures q h ∙ ap (ltb q) s.contract.sized) (λ p h. c.below-2.ensures p h ∙ ap (ltb p) s.«module».sized),
    )

-- a round that struck, after which the rounds go on
pub loop-board-preserved : goal.loop-board-preserved
loop-board-preserved c =
    let M = module_of c.args.self.now in
    let N = contract_of c.args.self.now in
    let r = c.strike_round in
    let e = r.ensures in (
      running_more M N (ranks_of M N c.loop-board.ranks) c.loop-board.done c.loop-board.invariant.0 (ranks_of M N r.new.ranks) (some_below 256 (in_row r.new.board.changed)) e.ranks e.more
          (not-false (some_below 256 (in_row r.new.board.changed)) (sym c.if-is_empty.ensures)),
      e.board,
    )

-- one round more is still a rank
pub overflow_add-done : goal.overflow_add-done
overflow_add-done c = let s = c.args.self.now in omega (arith, rounds_fit (module_of s) (contract_of s) (meaning_sound s.«module».machine.now) (meaning_sound s.contract.machine.now) _ c.loop-board.done c.loop-board.invariant.0)

pub overflow_add-done-in-loop-board : goal.overflow_add-done-in-loop-board
overflow_add-done-in-loop-board c = let s = c.args.self.now in omega (arith, rounds_fit (module_of s) (contract_of s) (meaning_sound s.«module».machine.now) (meaning_sound s.contract.machine.now) _ c.loop-board.done c.loop-board.invariant.0)

pub returns-then-is_empty : goal.returns-then-is_empty
returns-then-is_empty c =
    let M = module_of c.args.self.now in
    let N = contract_of c.args.self.now in
    let r = c.strike_round in
    let w = r.new.ranks in
    let e = r.ensures in
    let more = some_below 256 (in_row r.new.board.changed) in
    let none : more ≡ false = not-true more (sym c.if-is_empty.ensures) in
    record {
      full = laid_ranks M N w (λ i. omega (arith, c.type_inv.ranks i)) (let x = c.requires.room in omega (arith, r.auto.ranks, c.loop-board.auto.ranks))
          ∙ ap laid (running_ranks M N (ranks_of M N c.loop-board.ranks) c.loop-board.done c.loop-board.invariant.0 (ranks_of M N w) more e.ranks e.more none);
      last = sym (running_last M N (ranks_of M N c.loop-board.ranks) c.loop-board.done c.loop-board.invariant.0 (ranks_of M N w) more e.ranks e.more none);
    }

pub loop-board-smaller : goal.loop-board-smaller
loop-board-smaller c =
    let s = c.args.self.now in
    let M = module_of s in
    let N = contract_of s in
    let r = c.strike_round in
    let e = r.ensures in
    let run = running_more M N (ranks_of M N c.loop-board.ranks) c.loop-board.done c.loop-board.invariant.0 (ranks_of M N r.new.ranks) (some_below 256 (in_row r.new.board.changed)) e.ranks e.more
    (not-false (some_below 256 (in_row r.new.board.changed)) (sym c.if-is_empty.ensures)) in
    let a = few M N (ranks_of M N r.new.ranks) (c.loop-board.done + 1) run in
    let b = pairs_same M N s.«module».size s.contract.size s.«module».sized s.contract.sized in
    omega arith
