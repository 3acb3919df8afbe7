-- What is known of the initials of every sound machine.
use Rattle.std.proofs.Common.{◌≡◌, ℕ, ◌≤◌, true, false, sym, ap, ◌∙◌, ⊎_elim, arith}
use Rattle.std.proofs.lemmas.Bool.{cases_Bool}
use Rattle.lts.specs.Labels.{member}
use Rattle.lts.specs.Machines.{Machine, Sound, initial}
use Rattle.lts.specs.Some.{some_in, some_out}
use Rattle.source.specs.Masks.{initials_mask}
use Rattle.labels.proofs.Bits.{member_none}
use Rattle.source.proofs.Masks.{mask_from}

-- the label of a move is an initial
pub initial_move : (M : Machine) (p l q : ℕ) → Sound M → M.move p l q ≡ true → initial M p l ≡ true
unfolding initial
initial_move M p l q s e = some_in M.size (λ t. M.move p l t) q (s.within p l q e).to e

-- a number that is no state has no initials
pub initial_outside : (M : Machine) (p l : ℕ) → Sound M → M.size ≤ p → initial M p l ≡ false
unfolding initial
initial_outside M p l s h =
    ⊎_elim
    (λ (e : initial M p l ≡ true).
    let o = some_out M.size (λ q. M.move p l q) e in
    let w = (s.within p l o.0 o.2).from in
    absurd (omega arith))
    (λ (e : initial M p l ≡ false). e)
    (cases_Bool (initial M p l))

pub initials_outside : (M : Machine) (p x : ℕ) → Sound M → M.size ≤ p → x ≡ 0 → x ≡ initials_mask M p
initials_outside M p x s h z =
    mask_from 64 x (initial M p) (omega arith)
    (λ a k. ap (λ (y : ℕ). member y a) z ∙ member_none a ∙ sym (initial_outside M p a s h))
