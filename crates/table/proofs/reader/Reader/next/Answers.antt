use Rattle.std.proofs.Common.{Some, sym, refl, ap, ◌∙◌, arith}
use Rattle.table.proofs.Turns.{line_ends, line_open}
use Rattle.table.proofs.reader.Reader.next.Goals as goal

pub returns-in_default-clause-value : goal.returns-in_default-clause-value
returns-in_default-clause-value c =
    let r = c.args.self.now in
    sym (line_open r.stage r.line r.at r.text.now (sym c.end_of_line.ensures ∙ c.in_default.is) (sym c.is_empty.ensures ∙ c.if-is_empty.false))

pub returns-in-Ok-clause-value : goal.returns-in-Ok-clause-value
returns-in-Ok-clause-value c =
    let r = c.args.self.now in
    ap Some (sym c.in-Ok.is ∙ c.read_line-read.ensures) ∙ sym (line_ends r.stage r.line r.at c.in-Some.end r.text.now (sym c.end_of_line.ensures ∙ c.in-Some.is)).0

pub returns-in-Ok-clause-onward : goal.returns-in-Ok-clause-onward
returns-in-Ok-clause-onward c =
    let r = c.args.self.now in
    record {
      text = refl;
      stage = c.after-self.ensures;
      line = refl;
      further = omega arith;
      left = (line_ends r.stage r.line r.at c.in-Some.end r.text.now (sym c.end_of_line.ensures ∙ c.in-Some.is)).1;
    }

pub returns-in_default-read-clause-value : goal.returns-in_default-read-clause-value
returns-in_default-read-clause-value c =
    let r = c.args.self.now in
    ap Some c.read_line-read.ensures ∙ sym (line_ends r.stage r.line r.at c.in-Some.end r.text.now (sym c.end_of_line.ensures ∙ c.in-Some.is)).0
