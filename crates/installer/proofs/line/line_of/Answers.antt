use Rattle.std.proofs.Common.{sym, ap, ◌∙◌}
use Rattle.installer.specs.Texts.{text_of}
use Rattle.installer.specs.Lines.{line_of, answer_fields, refusal_fields}
use Rattle.installer.proofs.Fields.{ended}
use Rattle.installer.proofs.Lengths.{answer_short, refusal_short}
use Rattle.installer.proofs.line.line_of.Goals as goal
use Rattle.installer.proofs.line.line_of.Goals.{in-Ok, in-Err}

pub returns : goal.returns
returns c =
    elim c.match-outcome.branch [
      | in-Ok w ↦
          let v = w.in-Ok.verdict in
          ended (answer_fields v v.answer) (answer_short v v.answer) (ap text_of w.fields-is ∙ w.verdict_fields-fields.ensures) c.with.ensures
          ∙ sym (ap line_of w.in-Ok.is)
      | in-Err w ↦
          let r = w.in-Err.refused in
          ended (refusal_fields r) (refusal_short r) (ap text_of w.fields-is ∙ w.refusal_fields-fields.ensures) c.with.ensures
          ∙ sym (ap line_of w.in-Err.is)
    ]
