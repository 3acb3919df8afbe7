-- What a list of calls leaves is what its history says.
use Rattle.std.proofs.Common.{◌≡◌, ℕ, zero, suc, ◌≤◌, Bool, true, false, cond, eqb, List, ◌∷◌, get_or, set, Some, None, Ok, Option, sym, refl, ap, ◌∙◌, subst, arith}
use Rattle.std.proofs.lemmas.Bool.{true≢false, not-false, ltb-false, eqb-true, cond-true, cond-false}
use Rattle.table.specs.Table.{Listing}
use Rattle.judge.specs.Verdicts.{judged}
use Rattle.calls.specs.declared.request.Reply.{Reply}
use Rattle.calls.specs.declared.seat.Pile.{Pile}
use Rattle.calls.specs.declared.seat.Seat.{Seat}
use Rattle.calls.specs.declared.seat.Seat.TheVariants.{Empty, Contract, Fitted}
use Rattle.calls.specs.Seats.{has_contract, contract}
use Rattle.calls.specs.Contents.{Contents, seat_at}
use Rattle.calls.specs.Calls.{
  Call,
  enter,
  seat,
  fit,
  unfit,
  clear,
  seat_tests,
  fit_tests,
  unfit_tests,
  clear_tests,
  fitted_machine,
  contract_machine,
  yes_or_refused,
  refuses_call,
  changed,
}
use Rattle.calls.specs.Histories.{contract_on, pile_on, seat_with, seat_on, six, left_by, taken_of, Leaves, nothing, refused, taken}
use Rattle.calls.proofs.Taking.{passed}

-- a number up to 5 is one of six
one_of_six : (P : ℕ → Type 0) → P 0 → P 1 → P 2 → P 3 → P 4 → P 5 → (s : ℕ) → s ≤ 5 → P s
one_of_six P a b c d e f zero l = a
one_of_six P a b c d e f (suc zero) l = b
one_of_six P a b c d e f (suc (suc zero)) l = c
one_of_six P a b c d e f (suc (suc (suc zero))) l = d
one_of_six P a b c d e f (suc (suc (suc (suc zero)))) l = e
one_of_six P a b c d e f (suc (suc (suc (suc (suc zero))))) l = f
one_of_six P a b c d e f (suc (suc (suc (suc (suc (suc n)))))) l = absurd (omega arith)

six_at : (f : ℕ → Seat) (s : ℕ) → s ≤ 5 → get_or (six f) s Empty ≡ f s
six_at f = one_of_six (λ s. get_or (six f) s Empty ≡ f s) refl refl refl refl refl refl

six_set : (f : ℕ → Seat) (x : Seat) (s : ℕ) → s ≤ 5 → set (six f) s x ≡ six (λ k. cond (eqb s k) x (f k))
six_set f x = one_of_six (λ s. set (six f) s x ≡ six (λ k. cond (eqb s k) x (f k))) refl refl refl refl refl refl

six_same : (f g : ℕ → Seat) → ((k : ℕ) → f k ≡ g k) → six f ≡ six g
six_same f g h = rw (h 0, h 1, h 2, h 3, h 4, h 5)

-- nothing is fitted where there is no contract
abbrev Tidy : List Call → Type 0
Tidy past = (s : ℕ) → contract_on s past ≡ None → pile_on s past ≡ None

no_contract : (o : Option ℕ) (p : Option Pile) → has_contract (seat_with o p) ≡ false → o ≡ None
no_contract None p e = refl
no_contract (Some c) None e = absurd (true≢false e)
no_contract (Some c) (Some p) e = absurd (true≢false e)

some_contract : (o : Option ℕ) (p : Option Pile) → has_contract (seat_with o p) ≡ true → o ≡ Some (contract (seat_with o p))
some_contract None p e = absurd (true≢false (sym e))
some_contract (Some c) None e = refl
some_contract (Some c) (Some p) e = refl

-- one seat is written, and the history grows by one call
module _ (past : List Call) (r : ℕ) where
  abbrev f : ℕ → Seat
  f k = seat_on k past

  at_true : (k : ℕ) → eqb r k ≡ true → r ≡ k
  at_true k e = eqb-true r k e

  abbrev Writes : Seat → Call → ℕ → Type 0
  Writes x c k = cond (eqb r k) x (f k) ≡ seat_on k (c ∷ past)

  seat_writes : (c : ℕ) → pile_on r past ≡ None → (k : ℕ) → Writes (Contract c) (seat r c) k
  seat_writes c n k = go (eqb r k) (at_true k)
    where
      go : (b : Bool) → (b ≡ true → r ≡ k) → cond b (Contract c) (f k) ≡ seat_with (cond b (Some c) (contract_on k past)) (pile_on k past)
      go true h = ap (λ (o : Option Pile). seat_with (Some c) o) (sym (subst (λ (i : ℕ). pile_on i past ≡ None) (h refl) n))
      go false h = refl

  fit_writes : (p : Pile) (room : ℕ) → contract_on r past ≡ Some (contract (f r)) → (k : ℕ) → Writes (Fitted (contract (f r)) p) (fit r p room) k
  fit_writes p room n k = go (eqb r k) (at_true k)
    where
      go : (b : Bool) → (b ≡ true → r ≡ k) → cond b (Fitted (contract (f r)) p) (f k) ≡ seat_with (contract_on k past) (cond b (Some p) (pile_on k past))
      go true e = ap (λ (o : Option ℕ). seat_with o (Some p)) (sym (subst (λ (i : ℕ). contract_on i past ≡ Some (contract (f r))) (e refl) n))
      go false e = refl

  unfit_writes : contract_on r past ≡ Some (contract (f r)) → (k : ℕ) → Writes (Contract (contract (f r))) (unfit r) k
  unfit_writes n k = go (eqb r k) (at_true k)
    where
      go : (b : Bool) → (b ≡ true → r ≡ k) → cond b (Contract (contract (f r))) (f k) ≡ seat_with (contract_on k past) (cond b None (pile_on k past))
      go true e = ap (λ (o : Option ℕ). seat_with o None) (sym (subst (λ (i : ℕ). contract_on i past ≡ Some (contract (f r))) (e refl) n))
      go false e = refl

  clear_writes : (k : ℕ) → Writes Empty (clear r) k
  clear_writes k = go (eqb r k)
    where
      go : (b : Bool) → cond b Empty (f k) ≡ seat_with (cond b None (contract_on k past)) (cond b None (pile_on k past))
      go true = refl
      go false = refl

  -- all six
  writes : (c : Call) (x : Seat) → r ≤ 5 → ((k : ℕ) → Writes x c k) → set (six f) r x ≡ six (λ k. seat_on k (c ∷ past))
  writes c x l h = six_set f x r l ∙ six_same (λ k. cond (eqb r k) x (f k)) (λ k. seat_on k (c ∷ past)) h

with_seats : (ts : List Listing) (a b : List Seat) → a ≡ b → ◌≡◌ {A = Contents} (record { tables = ts; seats = a }) (record { tables = ts; seats = b })
with_seats ts a b e = ap (λ (x : List Seat). record { tables = ts; seats = x }) e

-- a call that is taken is one more in the history
grows : (past : List Call) (c : Call) → Tidy past → refuses_call (left_by past) c ≡ false → changed (left_by past) c ≡ left_by (c ∷ past)
grows past (enter text) n e = refl
grows past (seat r c) n e =
    let a = (passed (λ _. Reply.Done) (Ok tt) (seat_tests (left_by past) r c) e).0 in
    let l : r ≤ 5 = ltb-false 5 r a.0 in
    let z : has_contract (seat_on r past) ≡ false = subst (λ (x : Seat). has_contract x ≡ false) (six_at (λ k. seat_on k past) r l) a.1.1.0 in
    with_seats _ _ _ (writes past r (seat r c) (Contract c) l (seat_writes past r c (n r (no_contract (contract_on r past) (pile_on r past) z))))
grows past (fit r p room) n e =
    let H = left_by past in
    let a = (passed Reply.Fitted (yes_or_refused (judged (fitted_machine H p) (contract_machine H r) room)) (fit_tests H r p) e).0 in
    let l : r ≤ 5 = ltb-false 5 r a.0 in
    let i : seat_at H r ≡ seat_on r past = six_at (λ k. seat_on k past) r l in
    let z : has_contract (seat_on r past) ≡ true = subst (λ (x : Seat). has_contract x ≡ true) i (not-false _ a.1.0) in
    with_seats _ _ _
    (ap (λ (x : Seat). set (six (λ k. seat_on k past)) r (Fitted (contract x) p)) i
    ∙ writes past r (fit r p room) _ l (fit_writes past r p room (some_contract (contract_on r past) (pile_on r past) z)))
grows past (unfit r) n e =
    let a = (passed (λ _. Reply.Done) (Ok tt) (unfit_tests (left_by past) r) e).0 in
    let l : r ≤ 5 = ltb-false 5 r a.0 in
    let i : seat_at (left_by past) r ≡ seat_on r past = six_at (λ k. seat_on k past) r l in
    let z : has_contract (seat_on r past) ≡ true = subst (λ (x : Seat). has_contract x ≡ true) i (not-false _ a.1.0) in
    with_seats _ _ _
    (ap (λ (x : Seat). set (six (λ k. seat_on k past)) r (Contract (contract x))) i
    ∙ writes past r (unfit r) _ l (unfit_writes past r (some_contract (contract_on r past) (pile_on r past) z)))
grows past (clear r) n e =
    let a = (passed (λ _. Reply.Done) (Ok tt) (clear_tests (left_by past) r) e).0 in
    with_seats _ _ _ (writes past r (clear r) Empty (ltb-false 5 r a.0) (clear_writes past r))

none_some : {X : Type 0} (o : Option X) (x : X) → o ≡ None → o ≡ Some x → ⊥
none_some o x e f = let z : ◌≡◌ {A = ℕ} 0 1 = cc in omega arith

-- and leaves it tidy
stays_tidy : (past : List Call) (c : Call) → Tidy past → refuses_call (left_by past) c ≡ false → Tidy (c ∷ past)
stays_tidy past (enter text) n e s = n s
stays_tidy past (seat r c) n e s = go (eqb r s)
  where
    go : (b : Bool) → cond b (Some c) (contract_on s past) ≡ None → pile_on s past ≡ None
    go true h = absurd (none_some _ c h refl)
    go false h = n s h
stays_tidy past (fit r p room) n e s = go (eqb r s) (eqb-true r s)
  where
    go : (b : Bool) → (b ≡ true → r ≡ s) → contract_on s past ≡ None → cond b (Some p) (pile_on s past) ≡ None
    go true i k =
        let H = left_by past in
        let a = (passed Reply.Fitted (yes_or_refused (judged (fitted_machine H p) (contract_machine H r) room)) (fit_tests H r p) e).0 in
        let l : r ≤ 5 = ltb-false 5 r a.0 in
        let z : has_contract (seat_on r past) ≡ true = subst (λ (x : Seat). has_contract x ≡ true) (six_at (λ k. seat_on k past) r l) (not-false _ a.1.0) in
        absurd (none_some (contract_on r past) _ (subst (λ (j : ℕ). contract_on j past ≡ None) (sym (i refl)) k)
        (some_contract (contract_on r past) (pile_on r past) z))
    go false i k = n s k
stays_tidy past (unfit r) n e s = go (eqb r s)
  where
    go : (b : Bool) → contract_on s past ≡ None → cond b None (pile_on s past) ≡ None
    go true k = refl
    go false k = n s k
stays_tidy past (clear r) n e s = go (eqb r s)
  where
    go : (b : Bool) → cond b None (contract_on s past) ≡ None → cond b None (pile_on s past) ≡ None
    go true k = refl
    go false k = n s k

abbrev Told : List Call → Contents → Type 0
Told calls H = (H ≡ left_by (taken_of calls)) × Tidy (taken_of calls)

told : {calls : List Call} {H : Contents} → Leaves calls H → Told calls H
unfolding taken_of
told nothing = (refl, λ s e. refl)
told (refused {past} {H} c l e) =
    let t = told l in
    let x : refuses_call (left_by (taken_of past)) c ≡ true = ap (λ (K : Contents). refuses_call K c) (sym t.0) ∙ e in
    subst (λ (cs : List Call). (H ≡ left_by cs) × Tidy cs) (sym (cond-true _ (taken_of past) (c ∷ taken_of past) x)) t
told (taken {past} {H} c l e) =
    let t = told l in
    let z : refuses_call (left_by (taken_of past)) c ≡ false = ap (λ (K : Contents). refuses_call K c) (sym t.0) ∙ e in
    subst (λ (cs : List Call). (changed H c ≡ left_by cs) × Tidy cs) (sym (cond-false _ (taken_of past) (c ∷ taken_of past) z))
    (ap (λ (K : Contents). changed K c) t.0 ∙ grows (taken_of past) c t.1 z, stays_tidy (taken_of past) c t.1 z)

pub leaves_left : {calls : List Call} {H : Contents} → Leaves calls H → H ≡ left_by (taken_of calls)
leaves_left l = (told l).0
