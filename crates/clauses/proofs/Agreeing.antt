-- What fails depends on what is inside the two machines alone.
use Rattle.std.proofs.Common.{◌≡◌, ℕ, ◌<◌, Bool, cond, not, ◌&&◌, ltb, Some, None, Option, ap, ◌∙◌}
use Rattle.lts.specs.Machines.{Machine, some_below, implies, stable, initial}
use Rattle.lts.specs.Conformance.{covers}
use Rattle.clauses.specs.Candidates.{
  or_else,
  when,
  first_some,
  weak_by,
  move_fails,
  first_move_on,
  first_move,
  rest_fails,
  rest_on,
  first_rest_at,
  rests_from,
  first_rest,
  as_move,
  as_rest,
  first_by,
}
use Rattle.clauses.proofs.Somes.{some_alike}
use Rattle.clauses.proofs.Firsts.{first_same}

-- weak steps by two closures that agree
weak_same : (M : Machine) (R R' : ℕ → ℕ → Bool) (p l q : ℕ) → ((t : ℕ) → t < M.size → R p t ≡ R' p t) → weak_by M R p l q ≡ weak_by M R' p l q
unfolding weak_by
weak_same M R R' p l q h = some_alike M.size (λ t. R p t && M.move t l q) (λ t. R' p t && M.move t l q) (λ t b. ap (λ (x : Bool). x && M.move t l q) (h t b))

module _ (M N : Machine) (p q : ℕ) (R R' U U' S S' : ℕ → ℕ → Bool)
    (sR : (t : ℕ) → t < M.size → R p t ≡ R' p t) (sU : (t : ℕ) → t < N.size → U q t ≡ U' q t)
    (sS : (a b : ℕ) → a < M.size → b < N.size → S a b ≡ S' a b) where
  move_same : (l p' : ℕ) → p' < M.size → move_fails M N R U S p q l p' ≡ move_fails M N R' U' S' p q l p'
  unfolding move_fails
  move_same l p' h =
      ap (λ (b : Bool). b && not (some_below N.size (λ q'. weak_by N U q l q' && S p' q'))) (weak_same M R R' p l p' sR)
      ∙ ap (λ (b : Bool). weak_by M R' p l p' && not b)
      (some_alike N.size (λ q'. weak_by N U q l q' && S p' q') (λ q'. weak_by N U' q l q' && S' p' q')
      (λ q' k. ap (λ (b : Bool). b && S p' q') (weak_same N U U' q l q' sU) ∙ ap (λ (b : Bool). weak_by N U' q l q' && b) (sS p' q' h k)))

  -- the first clause
  moves_same : first_move M N R U S p q ≡ first_move M N R' U' S' p q
  unfolding first_move first_move_on
  moves_same =
      first_same (first_move_on M N R U S p q) (first_move_on M N R' U' S' p q) 64
      (λ l _. first_same (λ p'. when (move_fails M N R U S p q l p') (l, p')) (λ p'. when (move_fails M N R' U' S' p q l p') (l, p')) M.size
      (λ p' h. ap (λ (b : Bool). when {A = ℕ × ℕ} b (l, p')) (move_same l p' h)))

  -- the second, at one candidate
  rest_same : (p' y : ℕ) → rest_fails M N U q p' y ≡ rest_fails M N U' q p' y
  unfolding rest_fails
  rest_same p' y =
      ap (λ (b : Bool). implies (ltb y 64) (initial M p' y) && not b)
      (some_alike N.size (λ q'. U q q' && covers M N p' y q') (λ q'. U' q q' && covers M N p' y q') (λ q' k. ap (λ (b : Bool). b && covers M N p' y q') (sU q' k)))

  -- at one state
  pub at_same : (p' : ℕ) → first_rest_at M N U q p' ≡ first_rest_at M N U' q p'
  unfolding first_rest_at rest_on
  at_same p' =
      ap (λ (b : Bool). or_else (when {A = Option ℕ × ℕ} b (None, p')) (first_some (rest_on M N U q p') 64 0)) (rest_same p' 64)
      ∙ ap (λ o. or_else (when {A = Option ℕ × ℕ} (rest_fails M N U' q p' 64) (None, p')) o)
      (first_same (rest_on M N U q p') (rest_on M N U' q p') 64 (λ l _. ap (λ (b : Bool). when {A = Option ℕ × ℕ} b (Some l, p')) (rest_same p' l)))

  -- at all of them
  rests_same : first_rest M N R U p q ≡ first_rest M N R' U' p q
  unfolding first_rest rests_from
  rests_same =
      first_same (rests_from M N R U p q) (rests_from M N R' U' p q) M.size
      (λ p' h. ap (λ (b : Bool). cond (b && stable M p') (first_rest_at M N U q p') None) (sR p' h) ∙ ap (λ o. cond (R' p p' && stable M p') o None) (at_same p'))

  -- both clauses
  pub first_agrees : first_by M N R U S p q ≡ first_by M N R' U' S' p q
  first_agrees =
      ap (λ o. or_else (as_move o) (as_rest (first_rest M N R U p q))) moves_same
      ∙ ap (λ o. or_else (as_move (first_move M N R' U' S' p q)) (as_rest o)) rests_same
