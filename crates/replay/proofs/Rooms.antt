-- A workspace that is longer than any verdict wants serves as well as another such.
use Rattle.std.proofs.Common.{◌≡◌, ℕ, ◌+◌, ◌*◌, ◌<◌, ◌≤◌, Bool, cond, ◌||◌, eqb, ltb, List, length, take, min, ⊎_elim, Ok, Err, Result, sym, ap, ◌∙◌, mul-le-mul, arith}
use Rattle.std.proofs.lemmas.List.{length-take-le}
use Rattle.std.proofs.lemmas.Bool.{le-ltb, cases_lt}
use Rattle.lts.specs.Machines.{Machine, Sound}
use Rattle.source.specs.declared.refusal.Refusal as judging
use Rattle.source.specs.declared.refusal.Refusal.TheVariants.{TooLarge, TooShort}
use Rattle.ranks.specs.Filled.{total}
use Rattle.judge.specs.declared.verdict.Verdict.{Verdict}
use Rattle.judge.specs.Verdicts.{verdict, judged}
use Rattle.calls.specs.declared.seat.Pile.{Pile}
use Rattle.calls.specs.Seats.{contract}
use Rattle.calls.specs.Contents.{Contents, seat_at}
use Rattle.calls.specs.Calls.{unless_failed, fit_tests, fitted_machine, contract_machine, yes_or_refused, fit_result}
use Rattle.house.proofs.Lawful.{machine_sound, pile_sound}

most : (p q : ℕ) → p ≤ 255 → q ≤ 255 → (p + q) * (p + q) ≤ 260100
most p q a b = let l : p + q ≤ 510 = omega arith in mul-le-mul l l

same_judged : (P Q : Machine) → Sound P → Sound Q → (w v : ℕ) → 260100 ≤ w → 260100 ≤ v → judged P Q w ≡ judged P Q v
same_judged P Q s u w v a b =
    let l = most P.size Q.size s.small u.small in
    let e : ltb w (total P Q) ≡ ltb v (total P Q) = le-ltb w (total P Q) (omega arith) ∙ sym (le-ltb v (total P Q) (omega arith)) in
    ap (λ (t : Bool). cond {A = Result Verdict judging.Refusal} (eqb P.size 0 || eqb Q.size 0) (Err TooLarge) (cond t (Err TooShort) (Ok (verdict P Q)))) e

same_fit : (H : Contents) (s : ℕ) (p : Pile) (w v : ℕ) → 260100 ≤ w → 260100 ≤ v → fit_result H s p w ≡ fit_result H s p v
same_fit H s p w v a b =
    ap (λ (r : Result Verdict judging.Refusal). unless_failed (fit_tests H s p) Err (yes_or_refused r))
    (same_judged (fitted_machine H p) (contract_machine H s) (pile_sound H.tables p) (machine_sound H.tables (contract (seat_at H s))) w v a b)

-- a part that is as long as the room, or 260,100 bytes where the room is longer
pub lent_fit : (H : Contents) (s : ℕ) (p : Pile) (room lent : ℕ) (ws : List ℕ) → lent ≡ min room 260100 → length ws ≡ 260100 →
    fit_result H s p (length (take lent ws)) ≡ fit_result H s p room
lent_fit H s p room lent ws e l =
    let n : length (take lent ws) ≡ lent = length-take-le lent ws (omega arith) in
    ⊎_elim
    (λ (h : room < 260100). ap (fit_result H s p) (omega (arith, n)))
    (λ (h : 260100 ≤ room). same_fit H s p (length (take lent ws)) room (omega (arith, n)) h)
    (cases_lt room 260100)
