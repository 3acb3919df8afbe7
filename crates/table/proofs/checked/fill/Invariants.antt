use Rattle.std.proofs.Common.{◌≡◌}
use Rattle.table.specs.declared.head.Head.{Head}
use Rattle.table.specs.declared.line.Stage.TheVariants.{AfterHead}
use Rattle.table.specs.Table.{moves_of, read_text}
use Rattle.table.proofs.Turns.{to_come}
use Rattle.table.proofs.Stored.{Storing}
use Rattle.table.proofs.checked.fill.Given as goal

-- the first line stands behind, and the moves stored with those to come make the whole
abbrev pub invariant-loop-place : goal.invariant-loop-place
invariant-loop-place l = ((h : Head) × (l.reader.stage ≡ AfterHead h)) × Storing (moves_of (read_text l.text)) l.initial.moves l.moves l.place-index (to_come l.reader)
