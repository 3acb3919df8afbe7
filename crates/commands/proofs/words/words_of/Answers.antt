use Rattle.std.proofs.Common.{◌<◌, [], ◌∷◌, append-nil, append_assoc, arith}
use Rattle.std.specs.Iterator.Adapters.{take_count}
use Rattle.std.proofs.lemmas.List.{map_push}
use Rattle.commands.proofs.words.words_of.Goals as goal

pub loop-word-preserved : goal.loop-word-preserved
loop-word-preserved c =
    let n = c.in-Some.ensures.steps.1 in
    (omega arith, λ ws h. rw c.push.ensures.items (simp (map_push, append_assoc) (c.loop-word.invariant.1 (c.in-Some.word.now ∷ ws) (_, c.in-Some.ensures.steps.0, h))))

pub returns : goal.returns
returns c l =
    let some : 0 < take_count c.loop-word.word-iterator = omega arith in
    rw append-nil at (c.loop-word.invariant.1 [] (c.in-None.ensures.steps some).1)
