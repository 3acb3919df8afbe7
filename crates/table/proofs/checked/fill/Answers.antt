use Rattle.std.proofs.Common.{is_ok, sym, refl, ap, ◌∙◌, subst, arith}
use Rattle.std.proofs.lemmas.List.{set-get_or}
use Rattle.table.specs.Table.{moves_of, read_text}
use Rattle.table.proofs.Turns.{to_come, all_to_come, first_handed, move_handed, none_handed}
use Rattle.table.proofs.Stored.{Storing, sound_short, store_step, stored_all, none_left}
use Rattle.table.proofs.checked.fill.Goals as goal

pub loop-place-init : goal.loop-place-init
loop-place-init c =
    let e = c.new-reader.ensures in
    let a = all_to_come c.new-reader.result c.args.text.now e.text e.at e.line e.stage (sound_short c.args.text.now c.requires.sound) in
    let f = first_handed c.new-reader.result c.next.new.self c.next.result (ap is_ok a ∙ c.requires.sound) e.stage c.next.ensures.value c.next.ensures.onward in
    let b = sym f.2 ∙ a in
    ((f.0, f.1), (ap is_ok b ∙ c.requires.sound, omega arith, refl, ap moves_of b))

pub loop-place-preserved : goal.loop-place-preserved
loop-place-preserved c =
    let i = c.loop-place.invariant in
    let all = moves_of (read_text c.args.text.now) in
    let b = move_handed c.loop-place.reader c.next_move.new.reader c.in-Some.step c.in-Some.ensures.value c.next_move.ensures.onward in
    let before = subst (Storing all c.args.moves.now c.loop-place.moves c.loop-place.place-index) b.1 i.1 in
    ((i.0.0, b.0.stage ∙ i.0.1), store_step all c.args.moves.now c.loop-place.moves c.loop-place.place-index c.in-Some.step (to_come c.next_move.new.reader) before (omega arith))

pub returns-in_default : goal.returns-in_default
returns-in_default c =
    let i = c.loop-place.invariant in
    set-get_or c.loop-place.moves c.loop-place.place-index _ ∙
    stored_all _ c.args.moves.now c.loop-place.moves c.loop-place.place-index (to_come c.loop-place.reader) i.1 (none_handed c.loop-place.reader i.0.0 i.0.1 i.1.0 c.in_default.ensures.value)

pub returns : goal.returns
returns c =
    let i = c.loop-place.invariant in
    let r = to_come c.loop-place.reader in
    let all = moves_of (read_text c.args.text.now) in
    stored_all all c.args.moves.now c.loop-place.moves c.loop-place.place-index r i.1 (none_left all c.args.moves.now c.loop-place.moves c.loop-place.place-index r i.1 (omega arith) (omega arith))
