use Rattle.std.proofs.Common.{◌≡◌, ℕ, ◌<◌, Bool, true, false, ◌&&◌, sym, refl, ap, ◌∙◌}
use Rattle.std.proofs.lemmas.Bool.{and_from, and_left, and_right, and_parts}
use Rattle.lts.specs.Labels.{member}
use Rattle.lts.specs.Machines.{Machine, each_below, implies, stable, initial}
use Rattle.source.proofs.Masks.{initials_member}
use Rattle.clauses.specs.Ranks.{row_reads}
use Rattle.clauses.specs.Candidates.{rests_at}
use Rattle.clauses.proofs.Firsts.{kept}
use Rattle.clauses.proofs.Somes.{each_alike}
use Rattle.clauses.proofs.place.Place.rest_initials.Goals as goal

-- a test that fails in its first two parts
fails : (a b x : Bool) → (a && b) ≡ false → (a && (b && x)) ≡ false
fails true b x e = and_left b x e
fails false b x e = refl

-- and one whose parts hold
passes : (a b x : Bool) → (a && b) ≡ true → x ≡ true → (a && (b && x)) ≡ true
passes a b x e h = let p = and_parts a b e in and_from _ _ p.0 (and_from _ _ p.1 h)

pub returns-then-not-comes_to_rest : goal.returns-then-not-comes_to_rest
unfolding rests_at
returns-then-not-comes_to_rest g c =
    let N = g.Q.Source.means c.args.self.now.machine.now in
    let v = c.args.v in
    fails (row_reads c.args.self.now.row.now 0 v) (stable N v) (each_below 64 (λ l. implies (initial N v l) (member c.args.allowed.0 l))) (sym c.if-not-comes_to_rest.ensures)

same_inside : (N : Machine) (v x a : ℕ) → ((l : ℕ) → l < 64 → member x l ≡ initial N v l) →
    each_below 64 (λ l. implies (initial N v l) (member a l)) ≡ each_below 64 (λ l. implies (member x l) (member a l))
same_inside N v x a h = each_alike 64 (λ l. implies (initial N v l) (member a l)) (λ l. implies (member x l) (member a l)) (λ l k. ap (λ (b : Bool). implies b (member a l)) (sym (h l k)))

pub returns : goal.returns
unfolding rests_at
returns g c =
    let N = g.Q.Source.means c.args.self.now.machine.now in
    let v = c.args.v in
    let x = c.initials-initials.result.0 in
    let same = same_inside N v x c.args.allowed.0 (initials_member N v x c.initials-initials.ensures) ∙ sym c.inside.ensures in
    let U = row_reads c.args.self.now.row.now 0 v in
    let inside = each_below 64 (λ l. implies (initial N v l) (member c.args.allowed.0 l)) in
    kept _ c.inside.result c.initials-initials.result _ c.then_some.ensures
    (λ e. and_right _ _ (and_right _ _ (same ∙ e)))
    (λ e. (passes U (stable N v) inside (sym c.if-not-comes_to_rest.ensures) (same ∙ e), c.initials-initials.ensures))
