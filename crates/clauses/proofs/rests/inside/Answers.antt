use Rattle.std.proofs.Common.{◌≡◌, ℕ, Bool, true, false, ◌||◌, eqb, sym, refl, ap, ◌∙◌, arith}
use Rattle.std.proofs.lemmas.Bool.{eq-eqb, eqb-true}
use Rattle.lts.specs.Labels.{member}
use Rattle.lts.specs.Machines.{each_below, implies}
use Rattle.lts.specs.Some.{same}
use Rattle.labels.proofs.Bits.{same_members}
use Rattle.clauses.proofs.Somes.{each_in, each_out}
use Rattle.clauses.proofs.rests.inside.Goals as goal

to_implies : (a b : Bool) → (a || b) ≡ b → implies a b ≡ true
to_implies true b e = sym e
to_implies false b e = refl

from_implies : (a b : Bool) → implies a b ≡ true → (a || b) ≡ b
from_implies true b e = sym e
from_implies false b e = refl

pub returns : goal.returns
returns c =
    let x = c.args.labels.0 in
    let y = c.args.others.0 in
    let u = c.union.result.0 in
    let f : ℕ → Bool = λ l. implies (member x l) (member y l) in
    c.eq.ensures ∙ same (eqb u y) (each_below 64 f)
    (λ e. each_in 64 f (λ l h. to_implies (member x l) (member y l) (sym (c.union.ensures l) ∙ ap (λ (k : ℕ). member k l) (eqb-true u y e))))
    (λ e. eq-eqb u y (same_members 64 u y (omega arith) (omega arith) (λ l h. c.union.ensures l ∙ from_implies (member x l) (member y l) (each_out 64 f e l h))))
