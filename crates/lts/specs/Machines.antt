-- Machines: finite systems whose states are the numbers below their size. Moves and all that is said of states are
-- tests here, so that what a program answers can be put as an equation.
use Rattle.std.specs.Prelude.{◌≡◌, ℕ, zero, suc, ◌<◌, ◌≤◌, max, Bool, true, false, cond, not, ◌&&◌, ◌||◌, T, ◌==◌, nat_lt}
use Rattle.lts.specs.Labels.{name_of}
use Rattle.lts.specs.Systems.{Lts}

-- A machine of no states is the word too-large: it has no moves, and no state of it is stable.
pub record Machine : Type 0 where
  pub size : ℕ
  pub start : ℕ
  pub move : ℕ → ℕ → ℕ → Bool

-- a machine as a system
abbrev pub system_of : Machine → Lts
system_of M = record { state = ℕ; start = M.start; move = λ p l q. T (M.move p l q) }

-- a move between states below n, on a label
pub record MoveWithin (n p l q : ℕ) : Type 0 where
  pub from : p < n
  pub label : l ≤ 64
  pub to : q < n

-- what every source's machine is: too-large, or a machine of 1 to 255 states that starts and moves within them
pub record Sound (M : Machine) : Type 0 where
  pub small : M.size ≤ 255
  pub begins : M.start < max 1 M.size
  pub within : (p l q : ℕ) → M.move p l q ≡ true → MoveWithin M.size p l q

-- a machine that is not too-large
abbrev pub Fits : Machine → Type 0
Fits M = 1 ≤ M.size

-- what a source tells of its size: 256 for too-large
abbrev pub told_size : Machine → ℕ
told_size M = cond (M.size == 0) 256 M.size

-- whether some number below n passes a test; whether each does
unfoldable pub some_below : ℕ → (ℕ → Bool) → Bool
some_below zero f = false
some_below (suc n) f = f n || some_below n f

unfoldable pub each_below : ℕ → (ℕ → Bool) → Bool
each_below zero f = true
each_below (suc n) f = f n && each_below n f

abbrev pub implies : Bool → Bool → Bool
implies a b = not a || b

-- q is reached from p by at most k steps through the numbers below n
unfoldable pub reach : (ℕ → ℕ → Bool) → ℕ → ℕ → ℕ → ℕ → Bool
reach f n zero p q = p == q
reach f n (suc k) p q = reach f n k p q || some_below n (λ t. f p t && reach f n k t q)

-- zero or more silent moves lead from p to q: as many as there are states always suffice
unfoldable pub tau_reaches : Machine → ℕ → ℕ → Bool
tau_reaches M p q = reach (λ a b. M.move a 64 b) M.size M.size p q

-- silent moves, then one move on the label
unfoldable pub weak_step : Machine → ℕ → ℕ → ℕ → Bool
weak_step M p l q = some_below M.size (λ t. tau_reaches M p t && M.move t l q)

-- some move of p has the label
unfoldable pub initial : Machine → ℕ → ℕ → Bool
initial M p l = some_below M.size (λ q. M.move p l q)

-- p is a state without a silent move
abbrev pub stable : Machine → ℕ → Bool
stable M p = nat_lt p M.size && not (initial M p 64)

-- p is stable, has some initial, and each initial has its name in A
unfoldable pub stuck : Machine → (ℕ → Bool) → ℕ → Bool
stuck M A p = stable M p && (some_below 64 (initial M p) && each_below 64 (λ l. implies (initial M p l) (A (name_of l))))

-- a move that is silent, or on a name outside A
unfoldable pub outside : Machine → (ℕ → Bool) → ℕ → ℕ → Bool
outside M A p q = M.move p 64 q || some_below 64 (λ l. not (A (name_of l)) && M.move p l q)

-- such moves lead from the state p to the state q
unfoldable pub reached_from : Machine → (ℕ → Bool) → ℕ → ℕ → Bool
reached_from M A p q = nat_lt q M.size && reach (outside M A) M.size M.size p q

-- such moves lead from the start to p
abbrev pub reached : Machine → (ℕ → Bool) → ℕ → Bool
reached M A p = reached_from M A M.start p
