use Rattle.std.proofs.Common.{◌≡◌, ℕ, true, false, rules, sym, ◌∙◌, ⊎_elim, arith}
use Rattle.std.proofs.lemmas.Bool.{lt-ltb, cases_Bool, both_ways}
use Rattle.lts.specs.Machines.{Machine, Sound, initial}
use Rattle.source.proofs.Initials.{initial_move}
use Rattle.source.proofs.Masks.{initials_member}
use Rattle.dense.proofs.Tests.{implied}
use Rattle.dense.proofs.machine.copy_row.Goals as goal

-- no move on what is no initial
unmoved : (M : Machine) (p l q : ℕ) → Sound M → initial M p l ≡ false → M.move p l q ≡ false
unmoved M p l q s e = ⊎_elim
    (λ (t : M.move p l q ≡ true). absurd (both_ways (initial M p l) e (initial_move M p l q s t)))
    (λ t. t)
    (cases_Bool (M.move p l q))

pub returns-then-not-has : goal.returns-then-not-has
returns-then-not-has g c =
    let M = g.S.Source.means c.args.source.now in
    let l = c.args.label in
    record {
      told = λ q _.
          c.empty.ensures q
          ∙ sym (unmoved M c.args.p l q (g.S.Source.sound c.args.source.now)
          (sym (initials_member M c.args.p c.args.initials.0 c.requires.asked l c.if-label-lt-TAU.true) ∙ sym c.if-not-has.ensures));
    }

-- a move leads to a state
pub returns : goal.returns
returns g c =
    let M = g.S.Source.means c.args.source.now in
    let p = c.args.p in
    let l = c.args.label in
    record {
      told = λ q h.
          c.of.ensures.by_test (M.move p l) (λ q b k i e. search rules) q h
          ∙ implied _ _ (λ t. let w = ((g.S.Source.sound c.args.source.now).within p l q t).to in lt-ltb q c.args.n (let z = c.requires.states in omega arith));
    }
