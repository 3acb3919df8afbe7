use Rattle.std.proofs.Common.{◌≡◌, ◌+◌, ◌-◌, [], ◌∷◌, Ok, sym, ap, ◌∙◌, arith}
use Rattle.std.proofs.lemmas.Result.{err_from_is_err_and}
use Rattle.table.specs.declared.line.Stage.{Stage}
use Rattle.table.specs.Table.{read_text}
use Rattle.table.proofs.Turns.{counted, counted_none, rest, all_to_come, counts_on, stands, on_fault, on_end}
use Rattle.table.proofs.checked.summarize.Goals as goal

pub loop-read-init : goal.loop-read-init
loop-read-init c =
    let e = c.new-reader.ensures in
    let all = all_to_come c.new-reader.result c.args.text.now e.text e.at e.line e.stage (omega arith) in
    let n : c.new-reader.result.line - 2 ≡ 0 = omega arith in
    (e.text, rw e.stage e.line, rw n (ap (counted 0) all ∙ counted_none (read_text c.args.text.now)))

pub returns-in_err-read : goal.returns-in_err-read
returns-in_err-read c =
    let p = err_from_is_err_and c.from_residual.result c.from_residual.ensures.1 in
    let f = on_fault c.loop-read.reader c.in-Some.read c.in_err-read.field-0.0 c.in_err-read.was c.in-Some.ensures.value in
    rw (p.1, p.2) (sym (ap (counted (c.loop-read.reader.line - 2)) f) ∙ c.loop-read.invariant.2)

pub loop-read-preserved : goal.loop-read-preserved
loop-read-preserved c =
    let i = c.loop-read.invariant in
    let o = counts_on _ c.loop-read.reader c.next.new.self c.in-Some.read _ c.in_ok-read.was c.in-Some.ensures.value c.in-Some.ensures.onward i.1 i.2 in
    (o.0 ∙ i.0, o.2, o.3)

pub overflow_sub-result : goal.overflow_sub-result
overflow_sub-result c = stands c.loop-read.reader c.next.new.self c.in-AfterHead.head c.loop-read.invariant.1 c.in_default.ensures.onward c.in-AfterHead.is

pub returns-in-AfterHead : goal.returns-in-AfterHead
returns-in-AfterHead c =
    let q = c.next.new.self in
    let k = c.loop-read.reader.line - 2 in
    let on = c.in_default.ensures.onward in
    let e = ap (λ (s : Stage). counted k (rest s q.line ([] ∷ []))) c.in-AfterHead.is in
    let o = on_end c.loop-read.reader q c.in_default.ensures.value on in
    let n : q.line - 2 ≡ k + 0 = omega (arith, on.line) in
    ap (λ n. Ok (record { states = c.in-AfterHead.head.states; start = c.in-AfterHead.head.start; moves = n })) n ∙ sym e ∙ sym (ap (counted k) o) ∙ c.loop-read.invariant.2
