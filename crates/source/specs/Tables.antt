-- Machines that are given by a list of moves.
use Rattle.std.specs.Prelude.{ℕ, Bool, false, cond, ◌&&◌, ◌||◌, List, [], ◌∷◌, ◌==◌, nat_le, nat_lt}
use Rattle.lts.specs.Machines.{Machine}
use Rattle.source.specs.declared.table.Move.{Move}

-- whether some element passes a test
abbrev pub any : {X : Type 0} → (X → Bool) → List X → Bool
any f [] = false
any f (x ∷ xs) = f x || any f xs

abbrev pub is_move : ℕ → ℕ → ℕ → Move → Bool
is_move p l q v = v.from == p && (v.label == l && v.to == q)

-- too-large where the start is not a state, and beyond 255 states
abbrev pub table_size : ℕ → ℕ → ℕ
table_size states start = cond (nat_lt start states && nat_le states 255) states 0

-- between states below n, on a label
abbrev pub in_range : ℕ → ℕ → ℕ → ℕ → Bool
in_range n p l q = nat_lt p n && (nat_lt q n && nat_le l 64)

-- a move of the list; those out of range do not count
abbrev pub table_move : ℕ → List Move → ℕ → ℕ → ℕ → Bool
table_move n moves p l q = in_range n p l q && any (is_move p l q) moves

abbrev pub table_machine : ℕ → ℕ → List Move → Machine
table_machine states start moves = record {
  size = table_size states start;
  start = cond (table_size states start == 0) 0 start;
  move = table_move (table_size states start) moves;
}
