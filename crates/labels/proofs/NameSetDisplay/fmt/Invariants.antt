use Rattle.std.proofs.Common.{◌≡◌, ◌∷◌, ◌++◌}
use Rattle.std.specs.List.{flat_map}
use Rattle.std.specs.Fmt.{decimal, HasWritten, IsPlainFormatter}
use Rattle.labels.specs.Sets.{members}
use Rattle.labels.proofs.NameSetDisplay.fmt.Given as goal

abbrev pub invariant-loop-name : goal.invariant-loop-name
invariant-loop-name g l =
    (members l.initial.name-iterator.left.0 ≡ l.yielded ++ members l.name-iterator.left.0)
    × (IsPlainFormatter l.initial.f → HasWritten g.W.Write.write_str_gives l.initial.f (flat_map (λ j. 44 ∷ (32 ∷ decimal j)) l.yielded) l.f)
