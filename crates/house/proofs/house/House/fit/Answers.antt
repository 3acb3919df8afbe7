use Rattle.std.proofs.Common.{ℕ, ◌&&◌, ltb, length, Err, refl, ap, ◌∙◌, rules}
use Rattle.std.proofs.lemmas.Result.{err_from_is_err_and}
use Rattle.std.proofs.lemmas.Bool.{not-false, ltb-true, ltb-false, leb-false, lt-ltb, and_from}
use Rattle.calls.specs.Seats.{has_contract, contract}
use Rattle.calls.specs.Contents.{seat_at, machine_at, pile_machine}
use Rattle.calls.specs.Calls.{fit, fit_tests}
use Rattle.house.specs.Stored.{helper_in, judged_yes}
use Rattle.house.specs.Means.{means}
use Rattle.calls.proofs.Taking.{all_pass, goes_on}
use Rattle.house.proofs.Seated.{contract_there}
use Rattle.house.proofs.Fitting.{judged_ok, exactly_on, helper_from}
use Rattle.house.proofs.house.House.fit.Goals as goal

pub returns-in_err-c-clause-history : goal.returns-in_err-c-clause-history
returns-in_err-c-clause-history c =
    goes_on (means c.args.self.now) (fit c.args.s c.args.pile (length c.args.workspace.now)) (means c.args.self.now) (search rules)

pub returns-in_err-verdict-clause-history : goal.returns-in_err-verdict-clause-history
returns-in_err-verdict-clause-history c =
    goes_on (means c.args.self.now) (fit c.args.s c.args.pile (length c.args.workspace.now)) (means c.args.self.now) (search rules)

pub returns-clause-history : goal.returns-clause-history
returns-clause-history c =
    goes_on (means c.args.self.now) (fit c.args.s c.args.pile (length c.args.workspace.now)) (means c.put.new.self) (search rules)

pub returns-in_err-verdict-clause-exactly : goal.returns-in_err-verdict-clause-exactly
returns-in_err-verdict-clause-exactly c =
    let p = err_from_is_err_and c.from_residual-in_err-verdict.result c.from_residual-in_err-verdict.ensures.1 in
    exactly_on (means c.args.self.now) c.args.s c.args.pile (length c.args.workspace.now) c.in_ok-c.c _ c.in_ok-c.ensures (p.1 ∙ ap Err p.2 ∙ c.in_err-verdict.ensures.value)

pub returns-clause-exactly : goal.returns-clause-exactly
returns-clause-exactly c =
    exactly_on (means c.args.self.now) c.args.s c.args.pile (length c.args.workspace.now) c.in_ok-c.c _ c.in_ok-c.ensures c.in_ok-verdict.ensures.value

pub judge_pile-requires-clause-contract : goal.judge_pile-requires-clause-contract
judge_pile-requires-clause-contract c =
    let h = c.args.self.now in
    let H = means h in
    let s = c.args.s in
    let n = length H.tables in
    let q = all_pass (fit_tests H s c.args.pile) (contract (seat_at H s)) c.in_ok-c.c c.in_ok-c.ensures in
    ltb-true c.in_ok-c.c n
    (ap (λ (k : ℕ). ltb k n) q.1 ∙ contract_there h s (seat_at H s) (ltb-false 5 s q.0.0) refl (not-false (has_contract (seat_at H s)) q.0.1.0))

pub put-requires : goal.put-requires
put-requires c =
    let h = c.args.self.now in
    let H = means h in
    let ts = H.tables in
    let n = length ts in
    let s = c.args.s in
    let p = c.args.pile in
    let k = c.in_ok-c.c in
    let q = all_pass (fit_tests H s p) (contract (seat_at H s)) k c.in_ok-c.ensures in
    let y = judged_yes (pile_machine ts p) (machine_at ts k) in
    let l = ltb-false 5 s q.0.0 in (
      l,
      and_from (ltb k n) (ltb p.table n && (helper_in n p.helper && y))
          (ap (λ (x : ℕ). ltb x n) q.1 ∙ contract_there h s (seat_at H s) l refl (not-false (has_contract (seat_at H s)) q.0.1.0))
          (and_from (ltb p.table n) (helper_in n p.helper && y) (lt-ltb p.table n (leb-false n p.table q.0.1.1.0))
          (and_from (helper_in n p.helper) y (helper_from n p.helper q.0.1.1.1.0)
          (judged_ok (pile_machine ts p) (machine_at ts k) (length c.args.workspace.now) c.in_ok-verdict.verdict c.in_ok-verdict.ensures.value))),
    )
