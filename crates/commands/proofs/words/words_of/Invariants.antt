use Rattle.std.proofs.Common.{◌≡◌, ℕ, ◌+◌, List, ◌++◌, map, length}
use Rattle.std.specs.Iterator.Adapters.{take_source, take_count}
use Rattle.std.specs.Str.Iter.{split_whitespace_rest}
use Rattle.commands.specs.Words.{Words}
use Rattle.commands.proofs.words.words_of.Given as goal

-- what is still to be read completes the words so far
abbrev pub invariant-loop-word : goal.invariant-loop-word
invariant-loop-word l =
    (length l.words.items + take_count l.word-iterator ≡ 6)
    × ((ws : List (List ℕ)) → Words (split_whitespace_rest (take_source l.word-iterator)) ws → Words l.line (map (λ x. x.now) l.words.items ++ ws))
