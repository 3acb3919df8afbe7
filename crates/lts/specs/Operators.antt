-- Three ways to make a system from systems, and contexts made of them.
use Rattle.std.specs.Prelude.{◌≡◌, ℕ, ◌+◌, ◌*◌, ◌/◌, ◌%◌, ◌<◌, Bool, cond, T, nat_lt}
use Rattle.lts.specs.Labels.{complement, name_of}
use Rattle.lts.specs.Systems.{Lts}

-- Restriction drops the moves on a set of names, in both directions. Nothing becomes silent by it.
abbrev pub restrict : (ℕ → Bool) → Lts → Lts
restrict N L = record {
  state = L.state;
  start = L.start;
  move = λ p l q. L.move p l q × (l < 64 → T (N (name_of l)) → ⊥);
}

-- the label that a label becomes where name k becomes f k
abbrev pub renamed : (ℕ → ℕ) → ℕ → ℕ
renamed f l = cond (nat_lt l 64) (l / 32 * 32 + f (l % 32)) l

-- what a map of names owes: names go to names
abbrev pub Names : (ℕ → ℕ) → Type 0
Names f = (k : ℕ) → k < 32 → f k < 32

abbrev pub relabel : (ℕ → ℕ) → Lts → Lts
relabel f L = record {
  state = L.state;
  start = L.start;
  move = λ p l q. (k : ℕ) × L.move p k q × (renamed f k ≡ l);
}

-- either part moves alone; or the left moves on a visible label and the right on its complement, and both go
-- together by one silent move
pub data Joint (L R : Lts) (s t : record { a : L.state; b : R.state }) (l : ℕ) : Type 0 where
  left : L.move s.a l t.a → s.b ≡ t.b → Joint L R s t l
  right : R.move s.b l t.b → s.a ≡ t.a → Joint L R s t l
  sync : l ≡ 64 → (k : ℕ) → k < 64 → L.move s.a k t.a → R.move s.b (complement k) t.b → Joint L R s t l

abbrev pub parallel : Lts → Lts → Lts
parallel L R = record {
  state = record { a : L.state; b : R.state };
  start = record { a = L.start; b = R.start };
  move = λ s l t. Joint L R s t l;
}
