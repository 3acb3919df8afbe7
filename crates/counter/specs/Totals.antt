-- What the items of a statement come to.
use Rattle.std.specs.Prelude.{ℕ, ◌+◌, min}
use Rattle.counter.specs.declared.statement.Item.{Item}
use Rattle.counter.specs.declared.statement.Item.TheVariants.{Entered, Unread, Unclear}
use Rattle.counter.specs.declared.statement.Totals.{Totals}

-- one more, as far as can be counted
abbrev pub one_more : ℕ → ℕ
one_more n = min (n + 1) 18446744073709551615

-- the totals after an item
abbrev pub counted : Totals → Item → Totals
counted t (Entered file entry) = t
counted t (Unread file error) = record { kept = t.kept; refused = t.refused; unread = one_more t.unread; unclear = t.unclear }
counted t (Unclear at line) = record { kept = t.kept; refused = t.refused; unread = t.unread; unclear = one_more t.unclear }

-- the totals with what the desk has counted
abbrev pub closed : Totals → ℕ → ℕ → Totals
closed t kept refused = record { kept = kept; refused = refused; unread = t.unread; unclear = t.unclear }
