-- The first bytes of an input, where it is known.
use Rattle.std.proofs.Common.{◌≡◌, ℕ, List, take, Option, Some, None, IfSome, option_map}

pub first_known : (o : Option (List ℕ)) (n : ℕ) (text : List ℕ) → IfSome (option_map (take n) o) (λ xs. text ≡ xs) → IfSome o (λ xs. text ≡ take n xs)
first_known None n text h = h
first_known (Some xs) n text h = h
