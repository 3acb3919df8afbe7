-- Figures and text as they are shown.
use Rattle.std.specs.Prelude.{ℕ, ◌==◌, List, [], ◌∷◌, ◌++◌, length, take, codes, nat_lt, if◌then◌else◌, Option, Some, None}
use Rattle.std.specs.Char.{encode_utf8, is_control}
use Rattle.std.specs.Fmt.{decimal}
use Rattle.std.specs.List.{flat_map}
use Rattle.std.specs.Str.{chars}
use Rattle.labels.specs.Texts.{label_text}
use Rattle.search.specs.declared.StuckState.{StuckState}
use Rattle.console.specs.declared.shown.Entry.{Entry}

-- so many things: the figure, a blank, the word, and an s but for one
abbrev pub many_of : ℕ → List ℕ → List ℕ
many_of n thing = decimal n ++ 32 ∷ thing ++ (if n == 1 then [] else codes "s")

-- a character, or a question mark for one that would move the cursor
abbrev pub letter_shown : ℕ → ℕ
letter_shown c = if is_control c then 63 else c

-- up to 80 characters of a text, and two dots where it has more
abbrev pub text_shown : List ℕ → List ℕ
text_shown text = flat_map (λ c. encode_utf8 (letter_shown c)) (take 80 (chars text)) ++ (if nat_lt 80 (length (chars text)) then codes ".." else [])

-- where a table can get stuck alone
abbrev pub alone_shown : Option StuckState → List ℕ
alone_shown None = codes "  alone it cannot get stuck\n"
alone_shown (Some s) = codes "  alone it can get stuck in state " ++ (decimal s.state ++ (codes ", waiting for " ++ (label_text s.label ++ codes "\n")))

-- a line with the number of a table and what it holds, and a line with where it can get stuck
abbrev pub entry_shown : Entry → List ℕ
entry_shown e =
    codes "  table " ++ (decimal e.number ++ (codes ": " ++ (many_of e.states (codes "state") ++ (codes ", start " ++ (decimal e.start ++ (codes ", " ++ (many_of e.moves (codes "move") ++ (codes "\n" ++ alone_shown e.stuck))))))))
