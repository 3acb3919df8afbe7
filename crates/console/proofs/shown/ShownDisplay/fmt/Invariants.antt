use Rattle.std.proofs.Common.{◌≡◌, ◌++◌, take}
use Rattle.std.specs.Char.{encode_utf8}
use Rattle.std.specs.List.{flat_map}
use Rattle.std.specs.Fmt.{HasWritten, IsPlainFormatter}
use Rattle.std.specs.Iterator.Adapters.{take_source, take_count}
use Rattle.std.specs.Str.{IsUtf8, chars}
use Rattle.std.specs.Str.Iter.{chars_rest}
use Rattle.console.specs.Shown.{letter_shown}
use Rattle.console.proofs.shown.ShownDisplay.fmt.Given as goal

abbrev pub invariant-loop-letter : goal.invariant-loop-letter
invariant-loop-letter g l =
    (take 80 (chars l.fn.self.0.now) ≡ l.yielded ++ take (take_count l.letter-iterator) (chars (chars_rest (take_source l.letter-iterator))))
    × IsUtf8 (chars_rest (take_source l.letter-iterator))
    × (IsPlainFormatter l.initial.f → HasWritten g.W.Write.write_str_gives l.initial.f (flat_map (λ c. encode_utf8 (letter_shown c)) l.yielded) l.f)
