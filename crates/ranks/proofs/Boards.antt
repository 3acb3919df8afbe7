-- A round by rows is a round.
use Rattle.std.proofs.Common.{◌≡◌, ℕ, ◌+◌, ◌*◌, ◌/◌, ◌%◌, ◌<◌, ◌≤◌, Bool, true, false, cond, not, ◌&&◌, eqb, ltb, List, get_or, sym, refl, ap, ◌∙◌, ⊎_elim, arith}
use Rattle.std.proofs.lemmas.List.FromFn.{get_or-map-range_with_len, fill_by_all}
use Rattle.std.proofs.lemmas.Nat.{div-add-mod', div-mul-add, mod-mul-add}
use Rattle.std.proofs.lemmas.Bool.{and_parts, and_from, lt-ltb, ltb-true, cases_Bool}
use Rattle.std.proofs.lemmas.Bool.Decides.{nat_tests}
use Rattle.lts.specs.Machines.{Machine, some_below, each_below, implies, weak_step}
use Rattle.lts.specs.Conformance.{passes, passes_moves, passes_refusals}
use Rattle.lts.specs.Some.{same, some_in, some_out}
use Rattle.dense.specs.declared.row.Row.{Row}
use Rattle.dense.specs.Rows.{in_row}
use Rattle.clauses.specs.Ranks.{rank_at}
use Rattle.clauses.specs.Workspaces.{pairs}
use Rattle.dense.proofs.Tests.{some_alike}
use Rattle.clauses.proofs.Somes.{each_in, each_out, each_alike, none_at}
use Rattle.ranks.specs.Boards.{BeforeRound, Narrowed}
use Rattle.ranks.specs.Marks.{Marked}
use Rattle.ranks.specs.Rounds.{stands, strikes_at, strike, strikes, ranks_of}
use Rattle.ranks.specs.Steps.{in_rows, lost, steps_into, answered, all_answered}
use Rattle.ranks.specs.declared.board.Board.{Board}
use Rattle.ranks.proofs.After.{row_in, column_in, pair_in}
use Rattle.ranks.proofs.Placed.{rank_of, length_of}

-- both clauses against pairs that agree
pub passes_alike : (M N : Machine) (S T : ℕ → ℕ → Bool) (p q : ℕ) → ((a b : ℕ) → a < M.size → b < N.size → S a b ≡ T a b) → passes M N S p q ≡ passes M N T p q
unfolding passes passes_moves
passes_alike M N S T p q e = ap (λ (b : Bool). b && passes_refusals M N p q)
    (each_alike 64 (λ l. each_below M.size (λ p'. implies (weak_step M p l p') (some_below N.size (λ q'. weak_step N q l q' && S p' q'))))
    (λ l. each_below M.size (λ p'. implies (weak_step M p l p') (some_below N.size (λ q'. weak_step N q l q' && T p' q'))))
    (λ l _. each_alike M.size (λ p'. implies (weak_step M p l p') (some_below N.size (λ q'. weak_step N q l q' && S p' q')))
    (λ p'. implies (weak_step M p l p') (some_below N.size (λ q'. weak_step N q l q' && T p' q')))
    (λ p' h. ap (implies (weak_step M p l p'))
    (some_alike N.size (λ q'. weak_step N q l q' && S p' q') (λ q'. weak_step N q l q' && T p' q') (λ q' k. ap (λ (b : Bool). weak_step N q l q' && b) (e p' q' h k))))))

-- the first clause, by states before labels
moves_are : (M N : Machine) (S : ℕ → ℕ → Bool) (p q : ℕ) → passes_moves M N S p q ≡ each_below M.size (all_answered M N S p q)
unfolding passes_moves answered steps_into
moves_are M N S p q = same (passes_moves M N S p q) (each_below M.size (all_answered M N S p q))
    (λ e. each_in M.size (all_answered M N S p q) (λ p' h. each_in 64 (answered M N S p q p') (λ l k. each_out M.size _ (each_out 64 _ e l k) p' h)))
    (λ e. each_in 64 _ (λ l k. each_in M.size _ (λ p' h. each_out 64 (answered M N S p q p') (each_out M.size (all_answered M N S p q) e p' h) l k)))

-- answers to p' against pairs that agree there
answers_alike : (M N : Machine) (S T : ℕ → ℕ → Bool) (p q p' : ℕ) → ((b : ℕ) → b < N.size → S p' b ≡ T p' b) → all_answered M N S p q p' ≡ all_answered M N T p q p'
unfolding answered steps_into
answers_alike M N S T p q p' e = each_alike 64 (answered M N S p q p') (answered M N T p q p')
    (λ l _. ap (implies (weak_step M p l p')) (some_alike N.size (λ v. weak_step N q l v && S p' v) (λ v. weak_step N q l v && T p' v) (λ v h. ap (λ (b : Bool). weak_step N q l v && b) (e v h))))

-- what is left of s by a test, and what is lost
less_test : (s x p : Bool) → x ≡ (s && p) → (s && not x) ≡ (s && not p)
less_test s x p e = grind (arith, nat_tests)

kept_test : (s x p : Bool) → x ≡ (s && p) → (s && not x) ≡ false → x ≡ s
kept_test s x p e f = grind (arith, nat_tests)

-- tests in another order
step_test : (s x before moves all rest : Bool) → before ≡ (s && rest) → x ≡ (before && moves) → (s ≡ true → moves ≡ all) → x ≡ (s && (all && rest))
step_test s x before moves all rest e f g = grind (arith, nat_tests)

covered : (x y s moves rest : Bool) → y ≡ x → x ≡ (s && (moves && rest)) → x ≡ (y && rest)
covered x y s moves rest e f = grind (arith, nat_tests)

-- a pair that is struck no longer stands
stands_next : (k r : ℕ) (s x lost : Bool) → 0 < k → s ≡ eqb r 0 → lost ≡ (s && not x) → (lost ≡ false → x ≡ s) → x ≡ eqb (cond lost k r) 0
stands_next k r s x lost h e f g = grind (arith, nat_tests)

module _ (M N : Machine) (ranks : List ℕ) (b c : Board) (ready : BeforeRound M N ranks b)
    (done : Narrowed M N (λ p q. each_below M.size (λ p'. implies (in_row b.changed p') (all_answered M N (in_rows b.stands) p q p'))) b c) where
  abbrev S : ℕ → ℕ → Bool
  S = in_rows b.stands

  -- what stays is what passes
  step_is : (p q : ℕ) → p < M.size → q < N.size → in_rows c.next p q ≡ (S p q && passes M N S p q)
  unfolding passes
  step_is p q h l =
      step_test (S p q) _ _ _ (passes_moves M N S p q) (passes_refusals M N p q) (ready.cover p q h l) (done.next p q h l)
      (λ t.
      each_alike M.size (λ p'. implies (in_row b.changed p') (all_answered M N S p q p')) (all_answered M N S p q)
      (λ p' k. ⊎_elim
      (λ (u : in_row b.changed p' ≡ true). ap (λ (x : Bool). implies x (all_answered M N S p q p')) u)
      (λ (u : in_row b.changed p' ≡ false). ap (λ (x : Bool). implies x (all_answered M N S p q p')) u ∙ sym (ready.settled p q p' h l k t u))
      (cases_Bool (in_row b.changed p')))
      ∙ sym (moves_are M N S p q))

  -- what is lost is what the round strikes
  lost_is : (p q : ℕ) → p < M.size → q < N.size → strikes_at M N ranks (p * N.size + q) ≡ lost b.stands c.next p q
  unfolding strikes_at
  lost_is p q h l =
      let i = p * N.size + q in
      ap (λ (x : ℕ). eqb (get_or ranks i 0) 0 && not (passes M N (stands N ranks) x (i % N.size))) (div-mul-add p N.size q l)
      ∙ ap (λ (x : ℕ). eqb (get_or ranks i 0) 0 && not (passes M N (stands N ranks) p x)) (mod-mul-add p N.size q l)
      ∙ ap (λ (x : Bool). eqb (get_or ranks i 0) 0 && not x) (sym (passes_alike M N S (stands N ranks) p q ready.stand))
      ∙ ap (λ (x : Bool). x && not (passes M N S p q)) (sym (ready.stand p q h l))
      ∙ sym (less_test (S p q) (in_rows c.next p q) (passes M N S p q) (step_is p q h l))

  -- the same by the number of the pair
  lost_at : (i : ℕ) → i < pairs M N → strikes_at M N ranks i ≡ lost b.stands c.next (i / N.size) (i % N.size)
  lost_at i h = ap (strikes_at M N ranks) (sym (div-add-mod' i N.size)) ∙ lost_is (i / N.size) (i % N.size) (row_in M N i h) (column_in M N i h)

  module _ (r : Row) (small : M.size ≤ 255) (told : (p : ℕ) → p < 256 → in_row r p ≡ (ltb p M.size && some_below N.size (lost b.stands c.next p))) where
    -- some row lost a pair exactly when the round strikes one
    pub more_is : some_below 256 (in_row r) ≡ strikes M N ranks
    unfolding strikes
    more_is = same (some_below 256 (in_row r)) (strikes M N ranks)
        (λ e.
        let o = some_out 256 (in_row r) e in
        let p = o.0 in
        let x = and_parts (ltb p M.size) (some_below N.size (lost b.stands c.next p)) (sym (told p o.1) ∙ o.2) in
        let u = some_out N.size (lost b.stands c.next p) x.1 in
        let h = ltb-true p M.size x.0 in
        some_in (pairs M N) (strikes_at M N ranks) (p * N.size + u.0) (pair_in M N p u.0 h u.1) (lost_is p u.0 h u.1 ∙ u.2))
        (λ e.
        let o = some_out (pairs M N) (strikes_at M N ranks) e in
        let i = o.0 in
        let h = row_in M N i o.1 in
        some_in 256 (in_row r) (i / N.size) (omega arith)
        (told (i / N.size) (omega arith) ∙ and_from _ _ (lt-ltb (i / N.size) M.size h) (some_in N.size (lost b.stands c.next (i / N.size)) (i % N.size) (column_in M N i o.1) (sym (lost_at i o.1) ∙ o.2))))

  -- and the board is ready for the next one
  module _ (d : Board) (small : M.size ≤ 255) (left : d.next ≡ c.next) (stand : (p q : ℕ) → p < M.size → q < N.size → in_rows d.stands p q ≡ (S p q && in_rows c.next p q))
      (told : (p : ℕ) → p < 256 → in_row d.changed p ≡ (ltb p M.size && some_below N.size (lost b.stands c.next p))) where
    -- what stands is what was to stand next
    next_is : (p q : ℕ) → p < M.size → q < N.size → in_rows d.stands p q ≡ in_rows c.next p q
    next_is p q h l = let e = step_is p q h l in let f = stand p q h l in grind (arith, nat_tests)

    lost_none : (p : ℕ) → p < M.size → in_row d.changed p ≡ false → some_below N.size (lost b.stands c.next p) ≡ false
    lost_none p h u = let e = told p (omega arith) in grind (arith, nat_tests)

    pub board_next : (k : ℕ) → 0 < k → BeforeRound M N (strike M N k ranks) d
    unfolding strike passes
    board_next k pos = record {
      stand = λ p q h l.
          let i = p * N.size + q in
          let x = lost b.stands c.next p q in
          let now = get_or-map-range_with_len (λ j. cond (strikes_at M N ranks j) k (get_or ranks j 0)) 0 (pairs M N) i i 0 (pair_in M N p q h l) (omega arith) in
          next_is p q h l
          ∙ stands_next k (get_or ranks i 0) (S p q) (in_rows c.next p q) x pos (ready.stand p q h l) refl (kept_test (S p q) (in_rows c.next p q) (passes M N S p q) (step_is p q h l))
          ∙ sym (ap (λ (v : ℕ). eqb v 0) now ∙ ap (λ (y : Bool). eqb (cond y k (get_or ranks i 0)) 0) (lost_is p q h l));
      cover = λ p q h l. let e = step_is p q h l in let f = next_is p q h l in ap (λ (x : List Row). in_rows x p q) left ∙ covered (in_rows c.next p q) (in_rows d.stands p q) (S p q) (passes_moves M N S p q) (passes_refusals M N p q) f e;
      settled = λ p q p' h l j t u.
          answers_alike M N (in_rows d.stands) S p q p'
          (λ a v. next_is p' a j v ∙ kept_test (S p' a) (in_rows c.next p' a) (passes M N S p' a) (step_is p' a j v) (none_at N.size (lost b.stands c.next p') (lost_none p' j u) a v))
          ∙ each_out M.size (all_answered M N S p q)
          (sym (moves_are M N S p q) ∙ (and_parts (passes_moves M N S p q) (passes_refusals M N p q) (and_parts (S p q) _ (sym (next_is p q h l ∙ step_is p q h l) ∙ t)).1).0) p' j;
    }

  -- the ranks that are written are those of the round
  pub ranks_next : (k : ℕ) (was w : List ℕ) → ranks ≡ ranks_of M N was → Marked N.size k (λ p q. ltb p M.size && lost b.stands c.next p q) was w → ranks_of M N w ≡ strike M N k ranks
  unfolding strike
  ranks_next k was w e f =
      fill_by_all (λ i. cond (strikes_at M N ranks i) k (get_or ranks i 0)) (ranks_of M N w) (pairs M N) 0 (length_of M N w)
      (λ i h.
      let p = i / N.size in
      let q = i % N.size in
      let j = p * N.size + q in
      let z : j ≡ i = div-add-mod' i N.size in
      let old = rank_at was in
      rank_of M N w i h ∙ ap (rank_at w) (sym z) ∙ f.ranks p q (column_in M N i h)
      ∙ ap (λ (x : Bool). cond (x && lost b.stands c.next p q) k (old j)) (lt-ltb p M.size (row_in M N i h))
      ∙ ap (λ (x : Bool). cond x k (old j)) (sym (lost_at i h))
      ∙ ap (λ (x : ℕ). cond (strikes_at M N ranks i) k (old x)) z
      ∙ ap (λ (x : ℕ). cond (strikes_at M N ranks i) k x) (sym (rank_of M N was i h) ∙ ap (λ (v : List ℕ). get_or v i 0) (sym e)))
