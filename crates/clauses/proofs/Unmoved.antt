-- A label on no move that silent moves of p lead to.
use Rattle.std.proofs.Common.{◌≡◌, ℕ, Bool, true, false, ◌&&◌, None, ⊎_elim}
use Rattle.std.proofs.lemmas.Bool.{both_ways, and_parts, and_from, and_left, cond-false, cases_Bool}
use Rattle.lts.specs.Machines.{Machine, Sound, some_below, initial}
use Rattle.source.proofs.Initials.{initial_move}
use Rattle.clauses.specs.Candidates.{weak_by, move_fails, first_move_on}
use Rattle.clauses.proofs.Somes.{all_fail, none_at}
use Rattle.clauses.proofs.Firsts.{first_none}

-- then p weak-steps on it to no state
still : (M : Machine) (R : ℕ → ℕ → Bool) (p l q : ℕ) → Sound M → some_below M.size (λ t. R p t && initial M t l) ≡ false → weak_by M R p l q ≡ false
unfolding weak_by
still M R p l q s e = all_fail M.size (λ t. R p t && M.move t l q) (λ t h.
    ⊎_elim
    (λ (x : (R p t && M.move t l q) ≡ true).
    let b = and_parts (R p t) (M.move t l q) x in
    absurd (both_ways _ (none_at M.size _ e t h) (and_from (R p t) (initial M t l) b.0 (initial_move M t l q s b.1))))
    (λ (x : (R p t && M.move t l q) ≡ false). x)
    (cases_Bool (R p t && M.move t l q)))

-- and so no move on it fails
pub no_label : (M N : Machine) (R U S : ℕ → ℕ → Bool) (p q l : ℕ) → Sound M → some_below M.size (λ t. R p t && initial M t l) ≡ false → first_move_on M N R U S p q l ≡ None
unfolding first_move_on move_fails
no_label M N R U S p q l s e = first_none _ M.size (λ p' h. cond-false _ _ _ (and_left _ _ (still M R p l p' s e)))
