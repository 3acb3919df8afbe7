-- Machines that are given by the rows of their successors.
use Rattle.std.specs.Prelude.{◌≡◌, ℕ, ◌<◌, Bool, false, cond, ◌&&◌, List, [], ◌==◌, slice_index_or}
use Rattle.lts.specs.Machines.{Machine, some_below}
use Rattle.source.specs.Tables.{table_size, in_range}
use Rattle.dense.specs.declared.machine.Dense.{Dense}
use Rattle.dense.specs.declared.row.Row.{Row}
use Rattle.dense.specs.Rows.{in_row, none}

-- the row of p's successors on the label
abbrev pub row_at : List (List Row) → ℕ → ℕ → Row
row_at rows p l = slice_index_or (slice_index_or rows p []) l none

-- the row holds the states that p moves to on the label
pub record Successors (M : Machine) (p l : ℕ) (row : Row) : Type 0 where
  pub told : (q : ℕ) → q < 256 → in_row row q ≡ M.move p l q

-- what is out of range does not count
abbrev pub dense_move : ℕ → List (List Row) → ℕ → ℕ → ℕ → Bool
dense_move n rows p l q = in_range n p l q && in_row (row_at rows p l) q

-- too-large where the start is not a state
abbrev pub dense_machine : ℕ → ℕ → List (List Row) → Machine
dense_machine states start rows = record {
  size = table_size states start;
  start = cond (table_size states start == 0) 0 start;
  move = dense_move (table_size states start) rows;
}

-- the word too-large
abbrev pub no_machine : Machine
no_machine = record { size = 0; start = 0; move = λ p l q. false }

-- what a copy means
abbrev pub meaning : Dense → Machine
meaning d = dense_machine d.extent.states d.extent.start d.rows

-- p moves on the label into the set
unfoldable pub moves_into : Machine → ℕ → (ℕ → Bool) → ℕ → Bool
moves_into M l X p = some_below M.size (λ q. M.move p l q && X q)
