use Rattle.std.proofs.Common.{◌≡◌, Bool, true, false, ◌&&◌, ltb, leb, length, sym, ap, ◌∙◌}
use Rattle.std.proofs.lemmas.Bool.{lt-ltb, le-leb}
use Rattle.lts.specs.Machines.{Machine}
use Rattle.closure.specs.Sheets.{cells}
use Rattle.clauses.specs.Ranks.{reads, row_reads}
use Rattle.clauses.specs.Uncovered.{uncovered_by}
use Rattle.clauses.proofs.Reading.{uncovered_row}
use Rattle.clauses.proofs.rests.uncovered.Goals as goal

-- a test that fails in its first two parts
fails : (a b x : Bool) → (a && b) ≡ false → (a && (b && x)) ≡ false
fails true b x e = ap (λ (y : Bool). y && x) e
fails false b x e = e

pub returns-in_default : goal.returns-in_default
returns-in_default g c = λ p _.
    let M = g.P.Source.means c.args.module.now in
    let N = g.Q.Source.means c.args.contract.now in
    let sheet = c.args.sheet.now in
    let q = c.args.q in
    c.empty.ensures p ∙ sym (fails (ltb q N.size) (leb (cells N) (length sheet)) (uncovered_by M N (reads sheet N.size) q p) c.in_default.ensures)

pub returns : goal.returns
returns g c = λ p h.
    let M = g.P.Source.means c.args.module.now in
    let N = g.Q.Source.means c.args.contract.now in
    let sheet = c.args.sheet.now in
    let q = c.args.q in
    let row = c.in-Some.place.row.now in
    let r = c.in-Some.ensures.1 in
    let by = uncovered_by M N (reads sheet N.size) q p in
    c.uncovered.ensures p h ∙ ap (λ (X : Machine). uncovered_by M X (row_reads row) 0 p) (ap g.Q.Source.means c.in-Some.ensures.0) ∙ uncovered_row M N sheet row q p r
    ∙ sym (ap (λ (b : Bool). b && (leb (cells N) (length sheet) && by)) (lt-ltb q N.size r.state) ∙ ap (λ (b : Bool). b && by) (le-leb (cells N) (length sheet) r.room))
