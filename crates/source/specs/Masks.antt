-- Answers for many labels at once, as the bits of one number.
use Rattle.std.specs.Prelude.{ℕ, zero, suc, ◌+◌, ◌^◌, Bool, cond}
use Rattle.lts.specs.Machines.{Machine, initial}

-- the number whose bit k is f k for each k below n
unfoldable pub mask_below : ℕ → (ℕ → Bool) → ℕ
mask_below zero f = 0
mask_below (suc n) f = cond (f n) (2 ^ n) 0 + mask_below n f

-- the visible labels on the moves of p
abbrev pub initials_mask : Machine → ℕ → ℕ
initials_mask M p = mask_below 64 (initial M p)
