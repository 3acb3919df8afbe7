use Rattle.std.proofs.Common.{codes}
use Rattle.installer.specs.Figures.{figure}
use Rattle.installer.proofs.Fields.{fields}
use Rattle.installer.proofs.line.refusal_fields.Goals as goal

pub returns : goal.returns
returns c =
    let r = c.args.refused in
    fields (codes "refused") (figure r.number) (figure r.text) (figure r.line) (figure r.field)
    c.of.ensures c.field.ensures c.field-2.ensures c.field-3.ensures c.field-4.ensures
