-- Rounds until one strikes nothing.
use Rattle.std.proofs.Common.{◌≡◌, ℕ, suc, ◌+◌, ◌<◌, ◌≤◌, Bool, true, false, List, get_or, sym, ap, ◌∙◌, subst, ⊎_elim, mul-le-mul, add-one, arith}
use Rattle.std.proofs.lemmas.List.{ext_get_or}
use Rattle.std.proofs.lemmas.Bool.{cond-false, cases_Bool, cases_eq, both_ways}
use Rattle.lts.specs.Machines.{Machine, Sound}
use Rattle.lts.specs.Some.{some_in}
use Rattle.clauses.specs.Workspaces.{pairs}
use Rattle.ranks.specs.Rounds.{strikes_at, strike, strikes, ranks_after, last_round, final_ranks}
use Rattle.ranks.proofs.Counts.{marked, marked_le}
use Rattle.ranks.proofs.After.{ranks_more, ranks_grow, length_ranks, last_is}

-- as many pairs as two bytes can count
pub pairs_small : (M N : Machine) → Sound M → Sound N → pairs M N ≤ 65025
pairs_small M N s u = mul-le-mul s.small u.small

-- after k rounds, each of which struck a pair
pub record Running (M N : Machine) (b : List ℕ) (k : ℕ) : Type 0 where
  pub ranks : b ≡ ranks_after M N k
  pub struck : (j : ℕ) → j < k → strikes M N (ranks_after M N j) ≡ true
  pub count : k ≤ marked (pairs M N) (λ i. get_or (ranks_after M N k) i 0)

module _ (M N : Machine) where
  next_is : (k : ℕ) → strike M N (k + 1) (ranks_after M N k) ≡ ranks_after M N (suc k)
  unfolding ranks_after
  next_is k = ap (λ (x : ℕ). strike M N x (ranks_after M N k)) (add-one k)

  -- a round that strikes nothing leaves the ranks
  still : (k : ℕ) → strikes M N (ranks_after M N k) ≡ false → ranks_after M N (suc k) ≡ ranks_after M N k
  unfolding strikes
  still k e =
      ext_get_or 0 (ranks_after M N (suc k)) (ranks_after M N k) (length_ranks M N (suc k) ∙ sym (length_ranks M N k))
      (λ i h.
      let b : i < pairs M N = omega (arith, length_ranks M N (suc k)) in
      ranks_more M N k i b
      ∙ cond-false (strikes_at M N (ranks_after M N k) i) (suc k) (get_or (ranks_after M N k) i 0)
      (⊎_elim (λ (t : strikes_at M N (ranks_after M N k) i ≡ true). absurd (both_ways (strikes M N (ranks_after M N k)) e (some_in (pairs M N) (strikes_at M N (ranks_after M N k)) i b t))) (λ t. t)
      (cases_Bool (strikes_at M N (ranks_after M N k) i))))

  -- before the first round
  pub running_start : (b : List ℕ) → b ≡ ranks_after M N 0 → Running M N b 0
  running_start b e = record { ranks = e; struck = λ j h. absurd (omega arith); count = omega arith }

  module _ (b : List ℕ) (k : ℕ) (r : Running M N b k) where
    -- no more rounds than pairs
    pub few : k ≤ pairs M N
    few = let a = r.count in let b = marked_le (pairs M N) (λ i. get_or (ranks_after M N k) i 0) in omega arith

    module _ (c : List ℕ) (more : Bool) (e : c ≡ strike M N (k + 1) b) (m : more ≡ strikes M N b) where
      same : strikes M N (ranks_after M N k) ≡ more
      same = ap (strikes M N) (sym r.ranks) ∙ sym m

      next : c ≡ ranks_after M N (suc k)
      next = e ∙ ap (strike M N (k + 1)) r.ranks ∙ next_is k

      pub running_more : more ≡ true → Running M N c (k + 1)
      running_more t =
          rw add-one
          (record {
            ranks = next;
            struck = λ j h. ⊎_elim (λ (z : j ≡ k). subst (λ (x : ℕ). strikes M N (ranks_after M N x) ≡ true) (sym z) (same ∙ t)) (λ (z : j ≡ k → ⊥). r.struck j (omega arith)) (cases_eq j k);
            count = (let a = ranks_grow M N k (same ∙ t) in let c = r.count in omega arith);
          })

      pub running_last : more ≡ false → last_round M N ≡ k
      running_last t = last_is M N k few r.struck (same ∙ t)

      pub running_ranks : more ≡ false → c ≡ final_ranks M N
      unfolding final_ranks
      running_ranks t = next ∙ still k (same ∙ t) ∙ ap (ranks_after M N) (sym (running_last t))

-- a round more is numbered by two bytes too
pub rounds_fit : (M N : Machine) → Sound M → Sound N → (b : List ℕ) (k : ℕ) → Running M N b k → k + 1 < 65536
rounds_fit M N s t b k r = let l = pairs_small M N s t in omega (arith, few M N b k r)
