-- What a source tells of its size.
use Rattle.std.proofs.Common.{◌≡◌, ℕ, true, false, cond, eqb, sym, ◌∙◌, ⊎_elim}
use Rattle.std.proofs.lemmas.Bool.{cond-true, cond-false, eqb-false, cases_Bool}

pub told : (n size : ℕ) → n ≡ cond (eqb size 0) 256 size → (n ≡ 256 → ⊥) → (size ≡ n) × (size ≡ 0 → ⊥)
told n size e h = ⊎_elim
    (λ (t : eqb size 0 ≡ true). absurd (h (e ∙ cond-true (eqb size 0) 256 size t)))
    (λ (f : eqb size 0 ≡ false). (sym (e ∙ cond-false (eqb size 0) 256 size f), eqb-false size 0 f))
    (cases_Bool (eqb size 0))
