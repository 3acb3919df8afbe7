use Rattle.std.proofs.Common.{◌≡◌, ℕ, Bool, List, [], ◌∷◌}
use Rattle.lts.proofs.Order.{refl_meets, trans_meets}
use Rattle.lts.proofs.Sides.{parallel_meets}
use Rattle.lts.proofs.Coverings.{refusals_of, refusals_to}
use Rattle.lts.proofs.Keeping.{restrict_meets, relabel_meets}
use Rattle.lts.specs.Claims.{Chain, HoldsBoth, composed, Claim, Holds, MeetsClauses, claim_in_context, claim_layer, claim_parallel, claim_relabel, claim_restrict, reflexive}
use Rattle.lts.specs.Contexts.{Layer, relabelling, restricting, with_left, with_right}
use Rattle.lts.specs.Operators.{Names, relabel, restrict}
use Rattle.lts.specs.Systems.{Conforms, Lts, Meets}

pub to_clauses : (P Q : Lts) (R : P.state → Q.state → Type 0) → Meets P Q R → MeetsClauses P Q R
to_clauses P Q R m = record {
  moves = m.moves;
  refusals = λ p q r. refusals_to P Q p q (m.refusals p q r);
}

pub from_clauses : (P Q : Lts) (R : P.state → Q.state → Type 0) → MeetsClauses P Q R → Meets P Q R
from_clauses P Q R m = record {
  moves = m.moves;
  refusals = λ p q r. refusals_of P Q p q (m.refusals p q r);
}

pub claimed : (c : Claim) → Holds c → Conforms c.actual c.promised
claimed c t = record { by = c.by; meets = from_clauses c.actual c.promised c.by t; starts = c.starts }

module _ (c : Claim) (t : Holds c) where
  m : Meets c.actual c.promised c.by
  m = from_clauses c.actual c.promised c.by t

  pub restrict_claim : (N : ℕ → Bool) → Holds (claim_restrict N c)
  restrict_claim N = to_clauses (restrict N c.actual) (restrict N c.promised) c.by (restrict_meets N c.actual c.promised c.by m)

  pub relabel_claim : (f : ℕ → ℕ) → Names f → Holds (claim_relabel f c)
  relabel_claim f n = to_clauses (relabel f c.actual) (relabel f c.promised) c.by (relabel_meets f n c.actual c.promised c.by m)

  pub parallel_claim : (d : Claim) → Holds d → Holds (claim_parallel c d)
  parallel_claim d u = to_clauses (claim_parallel c d).actual (claim_parallel c d).promised (claim_parallel c d).by
      (parallel_meets c.actual c.promised d.actual d.promised c.by d.by m (from_clauses d.actual d.promised d.by u))

pub reflexive_holds : (L : Lts) → Holds (reflexive L)
reflexive_holds L = to_clauses L L (λ p q. p ≡ q) (refl_meets L)

pub layer_claim : (x : Layer) (c : Claim) → Holds c → Holds (claim_layer x c)
layer_claim (restricting N) c t = restrict_claim c t N
layer_claim (relabelling f n) c t = relabel_claim c t f n
layer_claim (with_right E) c t = parallel_claim c t (reflexive E) (reflexive_holds E)
layer_claim (with_left E) c t = parallel_claim (reflexive E) (reflexive_holds E) c t

pub context_claim : (xs : List Layer) (c : Claim) → Holds c → Holds (claim_in_context xs c)
context_claim [] c t = t
context_claim (x ∷ xs) c t = layer_claim x (claim_in_context xs c) (context_claim xs c t)

-- one claim after another
pub composed_holds : (c : Chain) → HoldsBoth c → Holds (composed c)
composed_holds c h =
    to_clauses c.first c.last (composed c).by
    (trans_meets c.first c.middle c.last c.by_first c.by_last
    (from_clauses c.first c.middle c.by_first h.0) (from_clauses c.middle c.last c.by_last h.1))
