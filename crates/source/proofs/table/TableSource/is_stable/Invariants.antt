use Rattle.std.proofs.Common.{◌≡◌, false, take}
use Rattle.source.specs.Tables.{any}
use Rattle.source.proofs.Tabled.{leaves}
use Rattle.source.proofs.table.TableSource.is_stable.Given as goal

abbrev pub invariant-loop-v : goal.invariant-loop-v
invariant-loop-v l = any (leaves l.n l.p 64) (take l.v-index l.self.moves.now) ≡ false
