use Rattle.std.proofs.Common.{length}
use Rattle.listed.proofs.one_line.decode.Given as goal

abbrev pub decreases-loop-byte : goal.decreases-loop-byte
decreases-loop-byte l = length l.rest
