use Rattle.std.proofs.Common.{replicate, refl, arith}
use Rattle.std.proofs.lemmas.Bool.{false≢true}
use Rattle.dense.specs.Copies.{no_machine}
use Rattle.dense.proofs.Copied.{none_copied}
use Rattle.dense.proofs.machine.Dense.none.Goals as goal

pub returns : goal.returns
returns c =
    none_copied no_machine c.default.result (replicate 255 (replicate 65 c.empty.result)) c.default.ensures
    (record { small = omega arith; begins = omega arith; within = λ p l q e. absurd (false≢true e) }) refl
