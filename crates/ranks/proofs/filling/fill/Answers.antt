use Rattle.std.proofs.Common.{◌≡◌, ℕ, ◌+◌, ◌*◌, List, drop, sym, ap, ◌∙◌, subst, arith}
use Rattle.std.proofs.lemmas.List.{drop-drop}
use Rattle.lts.specs.Machines.{Machine}
use Rattle.closure.specs.Sheets.{closure_sheet, Closed}
use Rattle.dense.specs.Copies.{meaning}
use Rattle.ranks.specs.Boards.{module_of, contract_of}
use Rattle.ranks.specs.Filled.{laid, total}
use Rattle.ranks.specs.Rounds.{final_ranks}
use Rattle.ranks.specs.declared.sides.Side.{Side}
use Rattle.ranks.proofs.Filled.{binomial, sheet_filled, sheet_holds}
use Rattle.ranks.proofs.filling.fill.Goals as goal

-- what lies behind the parts
behind : (M N : Machine) (n m : ℕ) (was : List ℕ) → n ≡ M.size → m ≡ N.size → drop (2 * (n * m)) (drop (m * m) (drop (n * n) was)) ≡ drop (total M N) was
behind M N n m was en em =
    rw (← en, ← em) (drop-drop (2 * (n * m)) (m * m) (drop (n * n) was) ∙ drop-drop (m * m + 2 * (n * m)) (n * n) was ∙ ap (λ (x : ℕ). drop x was) (omega (arith, binomial n m)))

pub of-requires-clause-closed : goal.of-requires-clause-closed
of-requires-clause-closed c =
    let M = meaning c.args.module.now in
    sheet_holds M c.fill_closure.new.sheet (sheet_filled M _ _ c.fill_closure.ensures (c.split_at_mut-own.ensures.front_len ∙ ap (λ (x : ℕ). x * x) c.requires.states))

pub of-requires-2-clause-closed : goal.of-requires-2-clause-closed
of-requires-2-clause-closed c =
    let N = meaning c.args.contract.now in
    sheet_holds N c.fill_closure-2.new.sheet (sheet_filled N _ _ c.fill_closure-2.ensures (c.split_at_mut-other.ensures.front_len ∙ ap (λ (x : ℕ). x * x) c.requires.others))

pub cover-covered-requires : goal.cover-covered-requires
cover-covered-requires c =
    let N = meaning c.args.contract.now in
    let other : contract_of c.of-sides.result ≡ N = ap (λ (s : Side). meaning s.machine.now) c.of-sides.ensures.other ∙ ap meaning c.of-2.ensures in
    subst (λ (x : Machine). Closed x c.fill_closure-2.new.sheet) (sym other)
    (sheet_holds N c.fill_closure-2.new.sheet (sheet_filled N _ _ c.fill_closure-2.ensures (c.split_at_mut-other.ensures.front_len ∙ ap (λ (x : ℕ). x * x) c.requires.others)))

pub returns-clause-whole : goal.returns-clause-whole
returns-clause-whole c =
    let M = meaning c.args.module.now in
    let N = meaning c.args.contract.now in
    let was = c.args.workspace.now in
    let own : module_of c.of-sides.result ≡ M = ap (λ (s : Side). meaning s.machine.now) c.of-sides.ensures.own ∙ ap meaning c.of.ensures in
    let other : contract_of c.of-sides.result ≡ N = ap (λ (s : Side). meaning s.machine.now) c.of-sides.ensures.other ∙ ap meaning c.of-2.ensures in
    let one : c.fill_closure.new.sheet ≡ closure_sheet M = sheet_filled M _ _ c.fill_closure.ensures (c.split_at_mut-own.ensures.front_len ∙ ap (λ (x : ℕ). x * x) c.requires.states) in
    let two : c.fill_closure-2.new.sheet ≡ closure_sheet N = sheet_filled N _ _ c.fill_closure-2.ensures (c.split_at_mut-other.ensures.front_len ∙ ap (λ (x : ℕ). x * x) c.requires.others) in
    let three : c.strike_all.new.ranks ≡ laid (final_ranks M N) = rw (own, other) at c.strike_all.ensures.full in
    let four : c.split_at_mut-ranks.result.1.now ≡ drop (total M N) was =
    c.split_at_mut-ranks.ensures.back ∙ ap (drop (2 * (c.args.n * c.args.m))) (c.split_at_mut-other.ensures.back ∙ ap (drop (c.args.m * c.args.m)) c.split_at_mut-own.ensures.back) ∙ behind M N c.args.n c.args.m was c.requires.states c.requires.others in
    rw (one, two, three, four)
