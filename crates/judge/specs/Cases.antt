-- Worked cases.
use Rattle.std.specs.Prelude.{◌≡◌, ℕ, Bool, false, ◌&&◌, ◌||◌, List, [], ◌∷◌, map, Some, None, ◌==◌}
use Rattle.lts.specs.Machines.{Machine}
use Rattle.lts.specs.Layers.{restrict_machine, parallel_machine}
use Rattle.clauses.specs.declared.counterexample.Counterexample.TheVariants.{Move, Rest}
use Rattle.ranks.specs.Rounds.{final_ranks}
use Rattle.ranks.specs.Filled.{whole}
use Rattle.judge.specs.declared.verdict.Answer.{Answer}
use Rattle.judge.specs.declared.verdict.Answer.TheVariants.{Yes, No}
use Rattle.judge.specs.Verdicts.{answer, verdict}

-- from, label, to
abbrev pub among : List (ℕ × ℕ × ℕ) → ℕ → ℕ → ℕ → Bool
among [] p l q = false
among (v ∷ vs) p l q = (v.0 == p && (v.1 == l && v.2 == q)) || among vs p l q

abbrev pub listed : ℕ → ℕ → List (ℕ × ℕ × ℕ) → Machine
listed n s moves = record { size = n; start = s; move = among moves }

-- one ?0
abbrev pub asks : Machine
asks = listed 2 0 ((0, 0, 1) ∷ [])

-- one ?0, or a silent move to rest
abbrev pub may_ask : Machine
may_ask = listed 3 0 ((0, 0, 1) ∷ (0, 64, 2) ∷ [])

-- ?0 or ?1
abbrev pub asks_either : Machine
asks_either = listed 2 0 ((0, 0, 1) ∷ (0, 1, 1) ∷ [])

-- the same, where a silent move chooses
abbrev pub chooses : Machine
chooses = listed 4 0 ((0, 64, 1) ∷ (0, 64, 2) ∷ (1, 0, 3) ∷ (2, 1, 3) ∷ [])

-- ?0 and then ?1, which may come at once
abbrev pub hastes : Machine
hastes = listed 3 0 ((0, 0, 1) ∷ (1, 1, 2) ∷ (0, 1, 2) ∷ [])

abbrev pub waits : Machine
waits = listed 3 0 ((0, 0, 1) ∷ (1, 1, 2) ∷ [])

-- ?0 and then ?1, from a start that is not 0
abbrev pub then_one : Machine
then_one = listed 3 1 ((1, 0, 0) ∷ (0, 1, 2) ∷ [])

-- ?0 and then ?2
abbrev pub then_two : Machine
then_two = listed 3 1 ((1, 0, 0) ∷ (0, 2, 2) ∷ [])

-- silent moves without end
abbrev pub spins : Machine
spins = listed 1 0 ((0, 64, 0) ∷ [])

-- !0 beside what hears it and then does !1
abbrev pub relayed : Machine
relayed = parallel_machine (listed 2 0 ((0, 32, 1) ∷ [])) (listed 3 0 ((0, 0, 1) ∷ (1, 33, 2) ∷ []))

-- one !1
abbrev pub tells_one : Machine
tells_one = listed 2 0 ((0, 33, 1) ∷ [])

pub record Case : Type 0 where
  pub actual : Machine
  pub promised : Machine
  pub expected : Answer

abbrev pub cases : List Case
cases =
    record { actual = asks; promised = may_ask; expected = No 1 (Rest (Some 0) 0) }
    ∷ record { actual = may_ask; promised = asks; expected = No 1 (Rest None 2) }
    ∷ record { actual = asks_either; promised = chooses; expected = Yes }
    ∷ record { actual = hastes; promised = waits; expected = No 1 (Move 1 2) }
    ∷ record { actual = then_one; promised = then_two; expected = No 2 (Move 0 0) }
    ∷ record { actual = spins; promised = asks; expected = Yes }
    ∷ record { actual = restrict_machine 1 relayed; promised = tells_one; expected = Yes }
    ∷ record { actual = relayed; promised = tells_one; expected = No 1 (Move 0 1) }
    ∷ []

pub record WorkedCases : Type 0 where
  pub answers : map (λ c. answer c.actual c.promised) cases ≡ map (λ c. c.expected) cases
  -- a whole workspace: two closures, ranks, and a byte that stays
  pub bytes : whole asks may_ask (0 ∷ []) ≡
      1 ∷ 0 ∷ 0 ∷ 1 ∷
      1 ∷ 0 ∷ 1 ∷ 0 ∷ 1 ∷ 0 ∷ 0 ∷ 0 ∷ 1 ∷
      1 ∷ 0 ∷ 1 ∷ 0 ∷ 1 ∷ 0 ∷ 0 ∷ 0 ∷ 0 ∷ 0 ∷ 0 ∷ 0 ∷ []
  pub whole_verdict : verdict asks_either chooses ≡ record { states = 2; others = 4; highest = 1; standing = 2; answer = Yes }
  pub second_round : final_ranks then_one then_two ≡ 1 ∷ 1 ∷ 1 ∷ 1 ∷ 2 ∷ 1 ∷ 1 ∷ 1 ∷ 0 ∷ []
