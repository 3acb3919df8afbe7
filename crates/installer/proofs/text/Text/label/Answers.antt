use Rattle.std.proofs.Common.{◌≡◌, ℕ, ◌-◌, List, [], ◌∷◌, ◌++◌, take, ap, ◌∙◌, arith}
use Rattle.installer.specs.Figures.{figure}
use Rattle.installer.specs.Texts.{text_of}
use Rattle.installer.proofs.Fields.{two, three, receives, sends, neither}
use Rattle.installer.proofs.text.Text.label.Goals as goal

pub returns-in-Some : goal.returns-in-Some
returns-in-Some c =
    let t = text_of c.args.self in
    let l = c.in-Some.label in
    three t (44 ∷ []) (63 ∷ []) (44 ∷ figure l) c.with.ensures c.with-in-Some.ensures c.field.ensures
    ∙ ap (λ (z : List ℕ). take 40 (t ++ 44 ∷ z)) (receives l c.args.label c.in-Some.is c.if-label-lt-NAMES.true)

pub returns-in-Some-2 : goal.returns-in-Some-2
returns-in-Some-2 c =
    let t = text_of c.args.self in
    let l = c.in-Some-2.label in
    let same : c.in-Some.label ≡ l = cc (c.in-Some.is, c.in-Some-2.is) in
    three t (44 ∷ []) (33 ∷ []) (44 ∷ figure (l - 32)) c.with-in-Some-2.ensures c.with-in-Some-2-2.ensures c.field-in-Some-2.ensures
    ∙ ap (λ (z : List ℕ). take 40 (t ++ 44 ∷ z)) (sends l c.args.label c.in-Some-2.is (omega (arith, same)))

pub returns-in-None : goal.returns-in-None
returns-in-None c =
    let t = text_of c.args.self in
    two t (44 ∷ []) (44 ∷ []) c.with-in-None.ensures c.with-in-None-2.ensures
    ∙ ap (λ (z : List ℕ). take 40 (t ++ 44 ∷ z)) (neither c.args.label c.in-None.is)
