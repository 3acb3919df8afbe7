use Rattle.std.proofs.Common.{None, sym, ◌∙◌}
use Rattle.std.proofs.lemmas.Bool.{cond-true, cond-false}
use Rattle.clauses.specs.Candidates.{rests_from}
use Rattle.clauses.proofs.place.Place.failing_from.Goals as goal

pub returns-then-not-comes_to_rest : goal.returns-then-not-comes_to_rest
unfolding rests_from
returns-then-not-comes_to_rest g c = sym (cond-false _ _ None (sym c.if-not-comes_to_rest.ensures))

pub returns : goal.returns
unfolding rests_from
returns g c = c.failing_at.ensures ∙ sym (cond-true _ _ None (sym c.if-not-comes_to_rest.ensures))
