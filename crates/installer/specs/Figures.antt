-- Numbers in decimal.
use Rattle.std.specs.Prelude.{◌≡◌, ℕ, zero, suc, ◌+◌, ◌/◌, ◌%◌, ◌<◌, cond, List, [], ◌∷◌, ◌++◌, decimal, nat_lt}

-- the digits of a number that has at most k of them
unfoldable pub digits : ℕ → ℕ → List ℕ
digits zero n = []
digits (suc k) n = cond (nat_lt n 10) ((48 + n) ∷ []) (digits k (n / 10) ++ (48 + n % 10) ∷ [])

-- a number below 100,000, in a form that computes
unfoldable pub figure : ℕ → List ℕ
figure n = digits 5 n

-- it is the decimal that tables are written in
abbrev pub FiguresAreDecimals : Type 0
FiguresAreDecimals = (n : ℕ) → n < 100000 → figure n ≡ decimal n
