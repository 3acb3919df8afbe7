use Rattle.std.proofs.Common.{◌≡◌, false, take}
use Rattle.source.specs.Tables.{any, is_move}
use Rattle.source.proofs.table.TableSource.has_move.Given as goal

abbrev pub invariant-loop-v : goal.invariant-loop-v
invariant-loop-v l = any (is_move l.p l.label l.q) (take l.v-index l.self.moves.now) ≡ false
