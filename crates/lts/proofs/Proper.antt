-- A machine that fits, with what soundness says of it in the form of tests that hold.
use Rattle.std.proofs.Common.{◌≡◌, ℕ, ◌<◌, ◌≤◌, Bool, true, false, T, refl, arith}
use Rattle.lts.specs.Machines.{Machine, Sound, Fits}

pub record Proper (M : Machine) : Type 0 where
  pub some : 1 ≤ M.size
  pub start_in : M.start < M.size
  pub from_in : (p l q : ℕ) → T (M.move p l q) → p < M.size
  pub label_in : (p l q : ℕ) → T (M.move p l q) → l ≤ 64
  pub to_in : (p l q : ℕ) → T (M.move p l q) → q < M.size

pub is_true : (b : Bool) → T b → b ≡ true
is_true true h = refl
is_true false h = absurd h

pub proper : (M : Machine) → Sound M → Fits M → Proper M
proper M s f = record {
  some = f;
  start_in = let b = s.begins in omega arith;
  from_in = λ p l q t. (s.within p l q (is_true (M.move p l q) t)).from;
  label_in = λ p l q t. (s.within p l q (is_true (M.move p l q) t)).label;
  to_in = λ p l q t. (s.within p l q (is_true (M.move p l q) t)).to;
}
