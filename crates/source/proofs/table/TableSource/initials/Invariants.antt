use Rattle.std.proofs.Common.{◌≡◌, ℕ, ◌^◌, ◌<◌, take}
use Rattle.lts.specs.Labels.{member}
use Rattle.source.specs.Tables.{any}
use Rattle.source.proofs.Tabled.{leaves}
use Rattle.source.proofs.table.TableSource.initials.Given as goal

abbrev pub invariant-loop-v : goal.invariant-loop-v
invariant-loop-v l = (l.seen.0 < 2 ^ 64)
    × ((a : ℕ) → a < 64 → member l.seen.0 a ≡ any (leaves l.n l.p a) (take l.v-index l.self.moves.now))
