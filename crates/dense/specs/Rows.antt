-- Rows of bits as sets of states.
use Rattle.std.specs.Prelude.{ℕ, ◌-◌, Bool, cond, nat_lt}
use Rattle.lts.specs.Labels.{member}
use Rattle.dense.specs.declared.row.Row.{Row}

-- state q is in the row: bit q of 256, in two halves
abbrev pub in_row : Row → ℕ → Bool
in_row r q = cond (nat_lt q 128) (member r.low q) (member r.high (q - 128))

-- the row without members
abbrev pub none : Row
none = record { low = 0; high = 0 }
