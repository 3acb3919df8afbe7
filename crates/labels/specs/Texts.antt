-- Names and visible labels as a person reads them.
use Rattle.std.specs.Prelude.{ℕ, ◌-◌, cond, List, [], ◌∷◌, ◌++◌, nat_lt}
use Rattle.std.specs.List.{flat_map}
use Rattle.std.specs.Fmt.{decimal}
use Rattle.labels.specs.Sets.{members}

-- `?k` receives on name k, and `!k` sends on it
abbrev pub label_text : ℕ → List ℕ
label_text l = cond (nat_lt l 32) (63 ∷ decimal l) (33 ∷ decimal (l - 32))

-- numbers with a comma and a space between two
abbrev pub listed_text : List ℕ → List ℕ
listed_text [] = []
listed_text (k ∷ ks) = decimal k ++ flat_map (λ j. 44 ∷ (32 ∷ decimal j)) ks

-- the names of a set, lowest first
abbrev pub names_text : ℕ → List ℕ
names_text names = listed_text (members names)
