use Rattle.std.specs.Prelude.{ℕ}
use Rattle.table.specs.declared.fault.Fault.{Fault}

-- the number of a refusal
abbrev pub number : Fault → ℕ
number (Fault.Unended k) = 1
number (Fault.Misshapen k) = 1
number (Fault.Figure k i) = 2
number (Fault.Way k) = 3
number (Fault.SilentName k) = 3
number Fault.TooLong = 4
number Fault.NoRoom = 4

-- the line of a fault, or 0
abbrev pub line_of : Fault → ℕ
line_of (Fault.Unended k) = k
line_of (Fault.Misshapen k) = k
line_of (Fault.Figure k i) = k
line_of (Fault.Way k) = k
line_of (Fault.SilentName k) = k
line_of Fault.TooLong = 0
line_of Fault.NoRoom = 0

-- the field of a fault, or 0
abbrev pub field_of : Fault → ℕ
field_of (Fault.Unended k) = 0
field_of (Fault.Misshapen k) = 0
field_of (Fault.Figure k i) = i
field_of (Fault.Way k) = 3
field_of (Fault.SilentName k) = 4
field_of Fault.TooLong = 0
field_of Fault.NoRoom = 0
