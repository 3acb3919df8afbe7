-- Contexts keep conformance, and a row whose systems are replaced by conforming ones conforms.
use Rattle.std.proofs.Common.{List, [], ◌∷◌}
use Rattle.lts.specs.Systems.{Lts, Conforms}
use Rattle.lts.specs.Operators.{parallel}
use Rattle.lts.specs.Contexts.{Layer, restricting, relabelling, with_right, with_left, layer, in_context, StandIn, row, actuals, promises}
use Rattle.lts.specs.Laws.{StuckOnlyIf}
use Rattle.lts.proofs.Order.{conforms_refl, conforms_stuck}
use Rattle.lts.proofs.Keeping.{restrict_keeps, relabel_keeps}
use Rattle.lts.proofs.Sides.{parallel_keeps}

layer_keeps : (x : Layer) (P Q : Lts) → Conforms P Q → Conforms (layer x P) (layer x Q)
layer_keeps (restricting N) P Q c = restrict_keeps N P Q c
layer_keeps (relabelling f n) P Q c = relabel_keeps f n P Q c
layer_keeps (with_right E) P Q c = parallel_keeps P Q E E c (conforms_refl E)
layer_keeps (with_left E) P Q c = parallel_keeps E E P Q (conforms_refl E) c

pub context_keeps : (xs : List Layer) (P Q : Lts) → Conforms P Q → Conforms (in_context xs P) (in_context xs Q)
context_keeps [] P Q c = c
context_keeps (x ∷ xs) P Q c = layer_keeps x (in_context xs P) (in_context xs Q) (context_keeps xs P Q c)

pub row_keeps : (ss : List StandIn) (E F : Lts) → Conforms E F → Conforms (row E (actuals ss)) (row F (promises ss))
row_keeps [] E F c = c
row_keeps (s ∷ ss) E F c =
    row_keeps ss (parallel E s.actual) (parallel F s.promised)
    (parallel_keeps E F s.actual s.promised c s.conforms)

pub row_stuck_only_if : (E : Lts) (ss : List StandIn) → StuckOnlyIf (row E (actuals ss)) (row E (promises ss))
row_stuck_only_if E ss = conforms_stuck (row E (actuals ss)) (row E (promises ss)) (row_keeps ss E E (conforms_refl E))
