use Rattle.std.proofs.Common.{◌≡◌, ◌-◌, length}
use Rattle.table.specs.Table.{summary_of, read_text}
use Rattle.table.proofs.Turns.{counted, to_come, Standing}
use Rattle.table.proofs.checked.summarize.Given as goal

-- the text stays, and the moves behind with those to come make the whole
abbrev pub invariant-loop-read : goal.invariant-loop-read
invariant-loop-read l = (l.reader.text.now ≡ l.text) × Standing l.reader.stage l.reader.line × (counted (l.reader.line - 2) (to_come l.reader) ≡ summary_of (read_text l.text))

abbrev pub decreases-loop-read : goal.decreases-loop-read
decreases-loop-read l = length l.text - l.reader.at
