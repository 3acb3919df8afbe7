-- Contexts over systems of any size, and systems in a row beside an environment.
use Rattle.std.specs.Prelude.{ℕ, Bool, List, [], ◌∷◌}
use Rattle.lts.specs.Systems.{Lts, Conforms}
use Rattle.lts.specs.Operators.{restrict, relabel, parallel, Names}

-- one layer: a restriction, a relabelling, or a third system on the right or on the left
pub data Layer : Type 1 where
  restricting : (ℕ → Bool) → Layer
  relabelling : (f : ℕ → ℕ) → Names f → Layer
  with_right : Lts → Layer
  with_left : Lts → Layer

abbrev pub layer : Layer → Lts → Lts
layer (restricting N) L = restrict N L
layer (relabelling f n) L = relabel f L
layer (with_right E) L = parallel L E
layer (with_left E) L = parallel E L

-- any number of layers, the first one outermost
abbrev pub in_context : List Layer → Lts → Lts
in_context [] L = L
in_context (x ∷ xs) L = layer x (in_context xs L)

-- a system in the place of another, to which it conforms
pub record StandIn : Type 1 where
  pub actual : Lts
  pub promised : Lts
  pub conforms : Conforms actual promised

-- ((E beside the first) beside the second) and so on
abbrev pub row : Lts → List Lts → Lts
row E [] = E
row E (P ∷ Ps) = row (parallel E P) Ps

abbrev pub actuals : List StandIn → List Lts
actuals [] = []
actuals (s ∷ ss) = s.actual ∷ actuals ss

abbrev pub promises : List StandIn → List Lts
promises [] = []
promises (s ∷ ss) = s.promised ∷ promises ss
