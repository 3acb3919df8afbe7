-- What a fit answers and leaves.
use Rattle.std.proofs.Common.{◌≡◌, ℕ, ◌≤◌, Bool, true, false, cond, not, ◌&&◌, ◌||◌, eqb, ltb, ◌↔◌, Some, None, Ok, Err, Option, Result, sym, refl, ap, ◌∙◌, subst, arith}
use Rattle.std.proofs.lemmas.Bool.{leb-false, lt-ltb}
use Rattle.lts.specs.Machines.{Machine, Sound, Fits}
use Rattle.lts.specs.Conformance.{MachineConforms}
use Rattle.source.specs.declared.refusal.Refusal.TheVariants.{TooLarge, TooShort}
use Rattle.ranks.specs.Filled.{total}
use Rattle.judge.specs.declared.verdict.Answer.{Answer}
use Rattle.judge.specs.declared.verdict.Answer.TheVariants.{Yes, No}
use Rattle.judge.specs.declared.verdict.Verdict.{Verdict}
use Rattle.judge.specs.Verdicts.{answer, verdict, judged}
use Rattle.judge.proofs.Refused.{accepts}
use Rattle.judge.proofs.Promised.{largest_relation, no_yes}
use Rattle.calls.specs.declared.refusal.Refusal.{Refusal}
use Rattle.calls.specs.declared.seat.Pile.{Pile}
use Rattle.calls.specs.Seats.{contract}
use Rattle.calls.specs.Contents.{Contents, seat_at, machine_at, pile_machine}
use Rattle.calls.specs.Calls.{unless_failed, fit_tests, contract_machine, lacks_helper, if_yes, yes_or_refused, refused_with, RefusedExactly}
use Rattle.calls.proofs.Taking.{all_pass}
use Rattle.house.proofs.Lawful.{machine_sound, pile_sound}
use Rattle.house.specs.Stored.{is_yes, judged_yes, helper_in}

ok_err : {A B : Type 0} (x : A) (e : B) → Ok x ≡ Err e → ⊥
ok_err x e i = let z : ◌≡◌ {A = ℕ} 0 1 = cc in omega arith

-- a verdict that is answered is yes, on machines that are not too large
pub judged_ok : (P Q : Machine) (room : ℕ) (v : Verdict) → Ok v ≡ yes_or_refused (judged P Q room) → judged_yes P Q ≡ true
judged_ok P Q room v e = go (eqb P.size 0) (eqb Q.size 0) (ltb room (total P Q)) (verdict P Q) e
  where
    yes_of : (w : Verdict) (x : Answer) → Ok v ≡ if_yes w x → is_yes x ≡ true
    yes_of w Yes e = refl
    yes_of w (No round c) e = absurd (ok_err v (Refusal.DoesNotConform round c) e)

    go : (a b t : Bool) (w : Verdict) → Ok v ≡ yes_or_refused (cond (a || b) (Err TooLarge) (cond t (Err TooShort) (Ok w))) →
        (not a && (not b && is_yes w.answer)) ≡ true
    go true b t w e = absurd (ok_err v (Refusal.Unjudged TooLarge) e)
    go false true t w e = absurd (ok_err v (Refusal.Unjudged TooLarge) e)
    go false false true w e = absurd (ok_err v (Refusal.Unjudged TooShort) e)
    go false false false w e = yes_of w w.answer e

-- where the judge refuses nothing, what is refused is what does not conform
exactly : (P Q : Machine) → Sound P → Sound Q → (room : ℕ) (r : Result Verdict Refusal) → r ≡ yes_or_refused (judged P Q room) →
    Fits P → Fits Q → total P Q ≤ room → (refused_with r ≡ 12) ↔ (MachineConforms P Q → ⊥)
exactly P Q s u room r e f g l =
    subst (λ (x : Result Verdict Refusal). (refused_with x ≡ 12) ↔ (MachineConforms P Q → ⊥))
    (sym (e ∙ ap yes_or_refused (accepts P Q f g room (verdict P Q) l))) (go (answer P Q) refl)
  where
    conforming : (answer P Q ≡ Yes) ↔ MachineConforms P Q
    conforming = (largest_relation P Q s u f g (λ _ _. Unit {0})).conforming

    go : (x : Answer) → answer P Q ≡ x → (refused_with (if_yes (verdict P Q) x) ≡ 12) ↔ (MachineConforms P Q → ⊥)
    go Yes i = ((λ z. absurd (omega arith)), (λ n. absurd (n (conforming.0 i))))
    go (No round c) i = ((λ _ m. no_yes round c (sym i ∙ conforming.1 m)), (λ _. refl))

-- the same of a fit whose tests passed, with the contract that they gave
pub exactly_on : (H : Contents) (s : ℕ) (p : Pile) (room c : ℕ) (r : Result Verdict Refusal) → Ok c ≡ unless_failed (fit_tests H s p) Err (Ok (contract (seat_at H s))) →
    r ≡ yes_or_refused (judged (pile_machine H.tables p) (machine_at H.tables c) room) → RefusedExactly H s p room r
exactly_on H s p room c r t e =
    let q = all_pass (fit_tests H s p) (contract (seat_at H s)) c t in
    λ _. exactly (pile_machine H.tables p) (contract_machine H s) (pile_sound H.tables p) (machine_sound H.tables (contract (seat_at H s))) room r
    (e ∙ ap (λ (k : ℕ). yes_or_refused (judged (pile_machine H.tables p) (machine_at H.tables k) room)) q.1)

pub helper_from : (n : ℕ) (h : Option ℕ) → lacks_helper n h ≡ false → helper_in n h ≡ true
helper_from n None e = refl
helper_from n (Some h) e = lt-ltb h n (leb-false n h e)
