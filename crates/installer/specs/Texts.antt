-- Bytes that are put together.
use Rattle.std.specs.Prelude.{ℕ, List, ◌++◌, length, take, drop}
use Rattle.installer.specs.declared.text.Text.{Text}

-- what is put together so far
abbrev pub text_of : Text → List ℕ
text_of t = t.bytes.items

-- no line is longer
abbrev pub line_room : ℕ
line_room = 40

-- as much of a line as there is room for
abbrev pub cut : List ℕ → List ℕ
cut xs = take line_room xs

-- with bytes behind what there is so far
abbrev pub grown : Text → List ℕ → List ℕ
grown t xs = cut (text_of t ++ xs)

-- bytes at the front of a buffer, and later bytes as they were
abbrev pub put_on : List ℕ → List ℕ → List ℕ
put_on xs was = xs ++ drop (length xs) was
