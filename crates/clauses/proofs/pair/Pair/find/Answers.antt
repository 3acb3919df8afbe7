use Rattle.std.proofs.Common.{◌≡◌, ◌+◌, ◌-◌, ◌*◌, length, take, drop, refl, ap, ◌∙◌}
use Rattle.lts.specs.Machines.{Machine}
use Rattle.dense.specs.Copies.{meaning}
use Rattle.clauses.specs.Ranks.{row_reads, stood_at}
use Rattle.clauses.specs.Candidates.{first_by}
use Rattle.clauses.proofs.Rows.{no_module, no_contract, too_short, found_pair}
use Rattle.clauses.proofs.pair.Pair.find.Goals as goal

pub returns-in_err-module : goal.returns-in_err-module
returns-in_err-module g c =
    let M = g.P.Source.means c.args.module.now in
    let N = meaning c.args.contract.now in
    rw c.from_residual.ensures (no_module M N c.args.workspace.now c.args.round c.args.p c.args.q M.size 0 refl c.in_err-module.ensures)

pub returns-in_err-contract : goal.returns-in_err-contract
returns-in_err-contract g c =
    let M = g.P.Source.means c.args.module.now in
    let N = meaning c.args.contract.now in
    let own = c.in_ok-module.module in
    let en = own.whole ∙ ap (λ x. (g.P.Source.means x).size) c.in_ok-module.ensures.0 in
    rw c.from_residual-in_err-contract.ensures (no_contract M N c.args.workspace.now c.args.round c.args.p c.args.q (length own.row.now) 0 en c.in_err-contract.ensures)

pub returns-then-ranks-n : goal.returns-then-ranks-n
returns-then-ranks-n g c =
    let M = g.P.Source.means c.args.module.now in
    let N = meaning c.args.contract.now in
    let own = c.in_ok-module.module in
    let other = c.in_ok-contract.contract in
    let en = own.whole ∙ ap (λ x. (g.P.Source.means x).size) c.in_ok-module.ensures.0 in
    let em = other.whole ∙ ap (λ x. (meaning x).size) c.in_ok-contract.ensures.0 in
    too_short M N c.args.workspace.now c.args.round c.args.p c.args.q (length own.row.now) (length other.row.now) en em c.if-ranks-n.true

pub returns : goal.returns
returns g c =
    let M = g.P.Source.means c.args.module.now in
    let N = meaning c.args.contract.now in
    let w = c.args.workspace.now in
    let own = c.in_ok-module.module in
    let other = c.in_ok-contract.contract in
    let n = length own.row.now in
    let m = length other.row.now in
    let a : n * n + m * m ≡ n * n + m * m = refl in
    let S = stood_at c.args.round (take (length w - (n * n + m * m)) (drop (n * n + m * m) w)) m in
    let eM : g.P.Source.means own.machine.now ≡ M = ap g.P.Source.means c.in_ok-module.ensures.0 in
    let eN : meaning other.machine.now ≡ N = ap meaning c.in_ok-contract.ensures.0 in
    ap (λ (X : Machine). first_by X (meaning other.machine.now) (row_reads own.row.now) (row_reads other.row.now) S 0 0) eM
    ∙ ap (λ (X : Machine). first_by M X (row_reads own.row.now) (row_reads other.row.now) S 0 0) eN
    ∙ found_pair M N w c.args.round c.args.p c.args.q n m (own.whole ∙ ap (λ (X : Machine). X.size) eM) (other.whole ∙ ap (λ (X : Machine). X.size) eN) own.row.now other.row.now
    c.in_ok-module.ensures.1 c.in_ok-contract.ensures.1 c.if-ranks-n.false
