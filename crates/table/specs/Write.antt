use Rattle.std.specs.Prelude.{◌≡◌, ℕ, ◌-◌, ◌<◌, ◌≤◌, cond, ◌↔◌, List, [], ◌∷◌, ◌++◌, length, Ok, codes, decimal, nat_lt}
use Rattle.std.specs.List.{flat_map, join_with_byte, AllByRecursion}
use Rattle.source.specs.declared.table.Move.{Move}
use Rattle.table.specs.Table.{Listing, read_text}

-- parts with a byte between each two
abbrev pub parted : ℕ → List (List ℕ) → List ℕ
parted b ps = join_with_byte b ps

-- fields with commas between them, and a line feed
abbrev pub written_line : List (List ℕ) → List ℕ
written_line fs = parted 44 fs ++ 10 ∷ []

-- a label below 32 is a ?, one below 64 a !, and 64 a -
abbrev pub way_text : ℕ → List ℕ
way_text l = cond (nat_lt l 32) (codes "?") (cond (nat_lt l 64) (codes "!") (codes "-"))

abbrev pub name_text : ℕ → List ℕ
name_text l = cond (nat_lt l 32) (decimal l) (cond (nat_lt l 64) (decimal (l - 32)) [])

abbrev pub move_fields : Move → List (List ℕ)
move_fields m = codes "move" ∷ decimal m.from ∷ way_text m.label ∷ name_text m.label ∷ decimal m.to ∷ []

abbrev pub head_fields : ℕ → ℕ → List (List ℕ)
head_fields n s = codes "table" ∷ decimal n ∷ decimal s ∷ []

-- the text of a listing
abbrev pub write : Listing → List ℕ
write t = written_line (head_fields t.states t.start) ++ flat_map (λ m. written_line (move_fields m)) t.moves

-- a move of a table of n states
abbrev pub WellFormedMove : ℕ → Move → Type 0
WellFormedMove n m = (m.from < n) × (m.label ≤ 64) × (m.to < n)

abbrev pub WellFormed : Listing → Type 0
WellFormed t = (0 < t.states) × (t.states < 256) × (t.start < t.states) × AllByRecursion (WellFormedMove t.states) t.moves

-- a text is read as a listing just if it is that listing written, and not too long
abbrev pub ReadsWhatIsWritten : Type 0
ReadsWhatIsWritten = (text : List ℕ) (t : Listing) → (read_text text ≡ Ok t) ↔ (WellFormed t × (text ≡ write t) × (length text ≤ 40960))
