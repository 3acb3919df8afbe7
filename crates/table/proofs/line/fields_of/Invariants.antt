use Rattle.std.proofs.Common.{◌≡◌}
use Rattle.table.proofs.line.fields_of.Given as goal

abbrev pub invariant-loop-field : goal.invariant-loop-field
invariant-loop-field l = l.fields.items ≡ l.yielded
