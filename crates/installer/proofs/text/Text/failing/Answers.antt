use Rattle.std.proofs.Common.{ℕ, List, [], ◌∷◌, ◌++◌, take, Some, ap, ◌∙◌}
use Rattle.table.specs.Write.{parted}
use Rattle.installer.specs.Figures.{figure}
use Rattle.installer.specs.Lines.{label_fields}
use Rattle.installer.specs.Texts.{text_of}
use Rattle.installer.proofs.Fields.{four, moved, rested}
use Rattle.installer.proofs.text.Text.failing.Goals as goal

pub returns-in-Move : goal.returns-in-Move
returns-in-Move c =
    let t = text_of c.args.self in
    let l = c.in-Move.label in
    let p = c.in-Move.state in
    four t (44 ∷ []) (49 ∷ []) (44 ∷ parted 44 (label_fields (Some l))) (44 ∷ figure p) c.with.ensures c.with-in-Move.ensures c.label.ensures c.field.ensures
    ∙ ap (λ (z : List ℕ). take 40 (t ++ 44 ∷ z)) (moved c.args.counterexample l p c.in-Move.is)

pub returns-in-Rest : goal.returns-in-Rest
returns-in-Rest c =
    let t = text_of c.args.self in
    let l = c.in-Rest.label in
    let p = c.in-Rest.state in
    four t (44 ∷ []) (50 ∷ []) (44 ∷ parted 44 (label_fields l)) (44 ∷ figure p) c.with-in-Rest.ensures c.with-in-Rest-2.ensures c.label-in-Rest.ensures c.field-in-Rest.ensures
    ∙ ap (λ (z : List ℕ). take 40 (t ++ 44 ∷ z)) (rested c.args.counterexample l p c.in-Rest.is)
