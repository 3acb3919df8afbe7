-- The tables of a house, as its memory has them.
use Rattle.std.proofs.Common.{◌≡◌, ℕ, ◌+◌, ◌-◌, ◌<◌, ◌≤◌, List, length, get_or, take, drop, sym, ap, subst, arith}
use Rattle.std.proofs.lemmas.List.{length-map, get_or-map}
use Rattle.source.specs.declared.table.Move.{Move}
use Rattle.house.specs.declared.house.Entry.{Entry}
use Rattle.house.specs.declared.house.House.{House}
use Rattle.calls.specs.Contents.{table_at}
use Rattle.house.specs.Stored.{listing}
use Rattle.house.specs.Means.{means}

pub tables_count : (h : House) → length (means h).tables ≡ length h.entries.items
tables_count h = length-map _ _

module _ (h : House) (c : ℕ) (below : c < length (means h).tables) where
  there : c < length h.entries.items
  there = subst (λ (n : ℕ). c < n) (tables_count h) below

  pub entry_within : (d : Entry) → (get_or h.entries.items c d).first + (get_or h.entries.items c d).count ≤ h.used
  entry_within d = h.within.0 c d there

  pub entry_listing : (d : Entry) → listing h.moves (get_or h.entries.items c d) ≡ table_at (means h).tables c
  entry_listing d = sym (get_or-map (listing h.moves) h.entries.items c d _ there)

-- a part from f on, c long
pub part_is : (f c : ℕ) (ms : List Move) → take (f + c - f) (drop f ms) ≡ take c (drop f ms)
part_is f c ms = let e : f + c - f ≡ c = omega arith in ap (λ (n : ℕ). take n (drop f ms)) e
