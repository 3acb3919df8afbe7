-- Names and labels. A name is a number from 0 to 31; receiving on name k is label k, sending is label k + 32,
-- and the silent move is label 64, called tau.
use Rattle.std.specs.Prelude.{ℕ, ◌+◌, ◌/◌, ◌%◌, ◌^◌, Bool, ◌==◌}

abbrev pub tau : ℕ
tau = 64

-- the other direction on the same name
abbrev pub complement : ℕ → ℕ
complement l = (l + 32) % 64

abbrev pub name_of : ℕ → ℕ
name_of l = l % 32

-- a set of names or of labels as the bits of a number: k is a member where bit k is 1
abbrev pub member : ℕ → ℕ → Bool
member x k = x / 2 ^ k % 2 == 1
