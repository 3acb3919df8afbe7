use Rattle.std.proofs.Common.{ℕ, ◌+◌, ◌-◌, ◌/◌, ◌%◌, List, [], ◌∷◌, ◌++◌, take, sym, ap, ◌∙◌}
use Rattle.installer.specs.Figures.{digits}
use Rattle.installer.specs.Texts.{text_of}
use Rattle.installer.proofs.Decimals.{digits_none, digits_one, digits_step}
use Rattle.installer.proofs.Fields.{two}
use Rattle.installer.proofs.text.Text.+digits.Goals as goal
use Rattle.installer.proofs.text.Text.+digits.Goals.{then-n-lt10, else-n-lt10}

pub returns-then-places-eq0 : goal.returns-then-places-eq0
returns-then-places-eq0 t c = digits_none (text_of c.args.self) c.args.places c.args.n c.args.self.fits c.if-places-eq0.true

pub returns : goal.returns
returns t c =
    let was = text_of c.args.self in
    let k = c.args.places in
    let n = c.args.n in
    elim c.if-n-lt10.branch [
      | then-n-lt10 w ↦
          c.with.ensures ∙ ap (λ (xs : List ℕ). take 40 (xs ++ (48 + n % 10) ∷ [])) (ap text_of w.front-is)
          ∙ ap (λ (xs : List ℕ). take 40 (was ++ xs)) (sym (digits_one k n c.if-places-eq0.false w.if-n-lt10.true))
      | else-n-lt10 w ↦
          two was (digits (k - 1) (n / 10)) ((48 + n % 10) ∷ []) (ap text_of w.front-is ∙ w.digits-front.ensures) c.with.ensures
          ∙ ap (λ (xs : List ℕ). take 40 (was ++ xs)) (sym (digits_step k n c.if-places-eq0.false w.if-n-lt10.false))
    ]
