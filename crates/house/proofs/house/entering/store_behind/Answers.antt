use Rattle.std.proofs.Common.{ℕ, ◌-◌, ◌≤◌, List, ◌++◌, length, take, drop, ap, ◌∙◌, arith}
use Rattle.std.proofs.lemmas.List.{take_rest, length-drop, drop_all, append-nil}
use Rattle.source.specs.declared.table.Move.{Move}
use Rattle.table.specs.Table.{read_text, summary_of, moves_of, in_room, stored_in}
use Rattle.house.proofs.house.entering.store_behind.Goals as goal

pub returns : goal.returns
returns c =
    let ms = c.args.moves.now in
    let used = c.args.used in
    let rt = read_text c.args.checked.now.text.now in
    let last = c.store.new.moves in
    let all : length (drop used ms) ≤ length ms - used = omega (arith, length-drop used ms) in
    record {
      value = c.store.ensures.value ∙ ap (λ (xs : List Move). in_room (length xs) (summary_of rt)) (take_rest ms used) ∙ ap (λ (n : ℕ). in_room n (summary_of rt)) (length-drop used ms);
      stored = ap (λ (ys : List Move). take used ms ++ ys)
          (ap (λ (ys : List Move). last ++ ys) (drop_all (length ms - used) (drop used ms) all) ∙ append-nil last ∙ c.store.ensures.stored
          ∙ ap (λ (xs : List Move). stored_in c.store.result (moves_of rt) xs) (take_rest ms used));
    }
