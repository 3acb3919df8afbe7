use Rattle.std.proofs.Common.{◌≡◌, ◌+◌, ◌-◌, ◌≤◌, true, List, length, Result, sym, ap, ◌∙◌, subst, arith, rules}
use Rattle.std.proofs.lemmas.List.{take-append-drop}
use Rattle.std.proofs.lemmas.Bool.{eqb-false}
use Rattle.source.specs.declared.table.Move.{Move}
use Rattle.std.specs.List.{All}
use Rattle.table.specs.Table.{Listing, read_text, moves_of}
use Rattle.table.specs.declared.fault.Fault.{Fault}
use Rattle.calls.specs.declared.request.Reply.{Reply}
use Rattle.calls.specs.Contents.{one_more}
use Rattle.calls.specs.Calls.{enter, enter_result}
use Rattle.calls.proofs.Taking.{when_refused, when_taken, err_refused, ok_taken}
use Rattle.house.specs.Means.{means}
use Rattle.house.specs.Stored.{seat_in, listings}
use Rattle.house.proofs.Entering.{room_ok, enter_kept, enter_no_room, tables_after, within_after}
use Rattle.house.proofs.house.House.keep.Goals as goal

pub invariant_of-self : goal.invariant_of-self
invariant_of-self c =
    let h = c.args.self.now in
    let e : c.store_behind.new.moves ≡ h.moves = c.in_err-summary.ensures.stored ∙ take-append-drop h.used h.moves in
    record {
      wide = (omega arith, h.wide.1);
      few = h.few;
      within = (
        h.within.0,
        subst (λ (ms : List Move). All (λ x. seat_in (listings ms h.entries.items) x ≡ true) h.seats) (sym e) h.within.1,
        h.within.2,
      );
    }

pub returns-in_err-summary-clause-answer : goal.returns-in_err-summary-clause-answer
returns-in_err-summary-clause-answer c =
    let h = c.args.self.now in
    let f = c.in_err-summary.field-0 in
    let l = eqb-false (length h.entries.items) 12 (sym c.if-is_full.ensures.value) in
    let e = enter_no_room h (read_text c.args.checked.now.text.now) (omega (arith, c.if-is_full.ensures.fits)) c.requires f.0 c.in_err-summary.ensures.value in
    search rules

pub invariant_of-self-2 : goal.invariant_of-self-2
invariant_of-self-2 c =
    let h = c.args.self.now in
    let rt = read_text c.args.checked.now.text.now in
    let s = c.in_ok-summary.summary in
    let r = room_ok (length h.moves - h.used) rt s c.in_ok-summary.ensures.value in
    let l : h.used + s.moves ≤ 1024 = omega (arith, r.2) in
    record {
      wide = (omega arith, h.wide.1);
      few = (l, omega (arith, c.push.ensures.len, c.if-is_full.ensures.fits, eqb-false (length h.entries.items) 12 (sym c.if-is_full.ensures.value)));
      within = within_after h c.store_behind.new.moves (moves_of rt) s c.push.new.self.items r.1 c.push.ensures.items c.in_ok-summary.ensures.stored;
    }

pub returns-clause-answer : goal.returns-clause-answer
returns-clause-answer c =
    let h = c.args.self.now in
    let l = eqb-false (length h.entries.items) 12 (sym c.if-is_full.ensures.value) in
    let e = enter_kept h (read_text c.args.checked.now.text.now) (omega (arith, c.if-is_full.ensures.fits)) c.in_ok-summary.summary c.in_ok-summary.ensures.value in
    search rules

pub returns-in_err-summary-clause-house : goal.returns-in_err-summary-clause-house
returns-in_err-summary-clause-house c =
    let h = c.args.self.now in
    let text = c.args.checked.now.text.now in
    let l = eqb-false (length h.entries.items) 12 (sym c.if-is_full.ensures.value) in
    let a = enter_no_room h (read_text text) (omega (arith, c.if-is_full.ensures.fits)) c.requires c.in_err-summary.field-0.0 c.in_err-summary.ensures.value in
    let e : c.store_behind.new.moves ≡ h.moves = c.in_err-summary.ensures.stored ∙ take-append-drop h.used h.moves in
    ap (λ (ms : List Move). record { tables = listings ms h.entries.items; seats = h.seats }) e
    ∙ (when_refused (means h) (enter text) (err_refused Reply.Entered (enter_result (means h) (read_text text)) _ a)).0

pub returns-clause-house : goal.returns-clause-house
returns-clause-house c =
    let h = c.args.self.now in
    let H = means h in
    let text = c.args.checked.now.text.now in
    let rt = read_text text in
    let s = c.in_ok-summary.summary in
    let r = room_ok (length h.moves - h.used) rt s c.in_ok-summary.ensures.value in
    let l = eqb-false (length h.entries.items) 12 (sym c.if-is_full.ensures.value) in
    let a = enter_kept h rt (omega (arith, c.if-is_full.ensures.fits)) s c.in_ok-summary.ensures.value in
    let k = tables_after h c.store_behind.new.moves (moves_of rt) s c.push.new.self.items r.1 c.push.ensures.items c.in_ok-summary.ensures.stored in
    (when_taken H (enter text) _ (ok_taken Reply.Entered (enter_result H rt) _ a)
    (ap (λ (ts : List Listing). record { tables = ts; seats = h.seats }) (k ∙ ap (λ (x : Result Listing Fault). one_more H.tables x) (sym r.0)))).0
