use Rattle.std.proofs.Common.{◌≡◌, ℕ, ◌<◌, Bool, ◌&&◌, length, sym, ap, ◌∙◌, rules, arith}
use borrow.Author.Tests.{tests}
use Rattle.std.proofs.lemmas.Bool.{and_parts, and_from, lt-ltb}
use Rattle.lts.specs.Machines.{Machine, some_below}
use Rattle.lts.specs.Some.{same, some_in, some_out}
use Rattle.dense.specs.Copies.{meaning, moves_into}
use Rattle.dense.specs.Rows.{in_row}
use Rattle.dense.specs.Sounds.{meaning_sound}
use Rattle.clauses.specs.Ranks.{row_reads, stood_at}
use Rattle.clauses.specs.Candidates.{weak_by}
use Rattle.clauses.proofs.Somes.{any_below}
use Rattle.clauses.proofs.pair.Pair.matched.Goals as goal

-- a weak step into a set, by the states that move into it
weak_rows : (N : Machine) (R : ℕ → Bool) (U : ℕ → ℕ → Bool) (q l : ℕ) (X S : ℕ → Bool) → ((t : ℕ) → t < N.size → R t ≡ moves_into N l X t) → ((v : ℕ) → v < N.size → X v ≡ S v) →
    some_below N.size (λ t. R t && U q t) ≡ some_below N.size (λ v. weak_by N U q l v && S v)
unfolding weak_by moves_into
weak_rows N R U q l X S er ex =
    same (some_below N.size (λ t. R t && U q t)) (some_below N.size (λ v. weak_by N U q l v && S v))
    (λ e.
    let o = some_out N.size (λ t. R t && U q t) e in
    let t = o.0 in
    let b = and_parts (R t) (U q t) o.2 in
    let i = some_out N.size (λ v. N.move t l v && X v) (sym (er t o.1) ∙ b.0) in
    let v = i.0 in
    let d = and_parts (N.move t l v) (X v) i.2 in
    some_in N.size (λ v. weak_by N U q l v && S v) v i.1 (and_from _ _ (some_in N.size (λ t. U q t && N.move t l v) t o.1 (and_from _ _ b.1 d.0)) (sym (ex v i.1) ∙ d.1)))
    (λ e.
    let o = some_out N.size (λ v. weak_by N U q l v && S v) e in
    let v = o.0 in
    let b = and_parts (weak_by N U q l v) (S v) o.2 in
    let i = some_out N.size (λ t. U q t && N.move t l v) b.0 in
    let t = i.0 in
    let d = and_parts (U q t) (N.move t l v) i.2 in
    some_in N.size (λ t. R t && U q t) t i.1 (and_from _ _ (er t i.1 ∙ some_in N.size (λ v. N.move t l v && X v) v o.1 (and_from _ _ d.1 (ex v o.1 ∙ b.1))) d.0))

pub returns : goal.returns
returns g c =
    let other = c.args.self.now.contract in
    let N = meaning other.machine.now in
    let m = length other.row.now in
    let S = stood_at c.args.self.now.round c.args.self.now.ranks.now m c.args.state in
    let small = (meaning_sound other.machine.now).small in
    let whole : m ≡ N.size = other.whole in
    any_below N.size (λ t. in_row c.before-before.result t && row_reads other.row.now 0 t) _ _ c.any.result c.any.ensures.ran (cc) (λ x b q k. search (rules, tests))
    ∙ weak_rows N (in_row c.before-before.result) (row_reads other.row.now) 0 c.args.label (in_row c.stood_row.result) S (λ t h. c.before-before.ensures t (omega arith))
    (λ v h. c.stood_row.ensures v (omega arith) ∙ ap (λ (b : Bool). b && S v) (lt-ltb v m (omega arith)))
