use Rattle.std.proofs.Common.{◌<◌, List, ℕ, map, Bor, length, ap, ◌∙◌, rules}
use Rattle.table.proofs.Commas.{piece_fits, pieces_given}
use Rattle.table.proofs.line.fields_of.Goals as goal
use borrow.Author.Tests.{tests}

pub push-requires : goal.push-requires
push-requires c =
    let l : length c.loop-field.fields.items < 6 = rw c.loop-field.invariant (piece_fits _ c.args.line.now _ _ _ c.loop-field.yielded _ c.loop-field.yielded_by c.next.ensures.steps (cc) (cc) (cc) (λ x b q k. search (rules, tests)) _ c.in-Some.is) in
    (search rules, l)

pub returns : goal.returns
returns c =
    ap (map (λ (x : Bor (List ℕ)). x.now)) c.loop-field.invariant ∙
    pieces_given _ c.args.line.now _ _ _ c.loop-field.yielded _ c.loop-field.yielded_by c.next.ensures.steps (cc) (cc) (cc) (λ x b q k. search (rules, tests)) c.in-None.is
