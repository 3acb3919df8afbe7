use Rattle.std.proofs.Common.{◌≡◌, ℕ, ◌<◌, Bool, not, ◌&&◌, Some, Option, sym, ap, ◌∙◌, rules}
use borrow.Author.Tests.{tests}
use Rattle.std.proofs.lemmas.Bool.{and_left}
use Rattle.lts.specs.Labels.{member}
use Rattle.lts.specs.Machines.{initial}
use Rattle.source.proofs.Masks.{initials_member}
use Rattle.clauses.specs.Ranks.{row_reads}
use Rattle.clauses.specs.Candidates.{when, rest_fails, rest_on}
use Rattle.clauses.proofs.Searching.{found_label}
use Rattle.clauses.proofs.Covering.{fails_bare, fails_with, bare_first, bare_covered, on_covered}
use Rattle.clauses.proofs.place.Place.failing_at.Goals as goal

pub returns-in_default : goal.returns-in_default
returns-in_default g c =
    let M = g.P.Source.means c.args.module.now in
    let N = g.Q.Source.means c.args.self.now.machine.now in
    let U = row_reads c.args.self.now.row.now in
    let s = c.args.state in
    let x = c.initials-allowed.result.0 in
    sym (bare_first M N U 0 s (fails_bare M N U 0 s (member x) (initials_member M s x c.initials-allowed.ensures) ∙ ap not c.in_default.ensures))

pub returns : goal.returns
unfolding rest_on
returns g c =
    let M = g.P.Source.means c.args.module.now in
    let N = g.Q.Source.means c.args.self.now.machine.now in
    let U = row_reads c.args.self.now.row.now in
    let s = c.args.state in
    let x = c.initials-allowed.result.0 in
    let y = c.in-Some.covered.0 in
    let same = initials_member M s x c.initials-allowed.ensures in
    let fails : (l : ℕ) → l < 64 → rest_fails M N U 0 s l ≡ (initial M s l && not (member y l)) =
    λ l h. fails_with M N U 0 s (member x) same l h ∙ ap (λ (b : Bool). initial M s l && not b) (sym (c.in-Some.ensures.labels l h)) in
    found_label x (λ l. when {A = Option ℕ × ℕ} (not (member y l)) (Some l, s)) (rest_on M N U 0 s) _ c.find_map.ensures.runs (ap (λ l. l.0) c.iter.ensures) (λ l b q k. search (rules, tests))
    (λ l h i. ap (λ (b : Bool). when {A = Option ℕ × ℕ} b (Some l, s)) (sym (fails l h ∙ ap (λ (b : Bool). b && not (member y l)) (sym (same l h) ∙ i))))
    (λ l h i. on_covered M N U 0 s l (fails l h ∙ and_left _ _ (sym (same l h) ∙ i)))
    ∙ sym (bare_covered M N U 0 s (fails_bare M N U 0 s (member x) same ∙ ap not c.in-Some.ensures.some))
