-- Pairs that a loop narrows down, test by test.
use Rattle.std.proofs.Common.{◌≡◌, ℕ, ◌+◌, ◌<◌, Bool, true, false, ◌&&◌, eqb, ltb, length, set, sym, refl, ap, ◌∙◌, subst, ⊎_elim, add-one, arith, get_or-set_other, get_or-set_same}
use Rattle.std.proofs.lemmas.Bool.{cases_eq, ne_eqb, eq-eqb}
use Rattle.std.proofs.lemmas.Bool.Decides.{nat_tests}
use Rattle.lts.specs.Machines.{Machine, each_below, implies}
use Rattle.dense.specs.declared.row.Row.{Row}
use Rattle.dense.specs.Rows.{in_row, none}
use Rattle.ranks.specs.Boards.{Narrowed}
use Rattle.ranks.specs.Steps.{in_rows}
use Rattle.ranks.specs.declared.board.Board.{Board}

and_one : (a : Bool) → (a && true) ≡ a
and_one a = grind (arith, nat_tests)

-- by the cases of a test
taken : (a x e m : Bool) → e ≡ true → m ≡ true → (a && x) ≡ (a && implies (e && m) x)
taken a x e m h k = grind (arith, nat_tests)

passed : (a x e m : Bool) → e ≡ false → a ≡ (a && implies (e && m) x)
passed a x e m h = grind (arith, nat_tests)

-- the answers, with each state below k that moves
abbrev pub kept : (ℕ → Bool) → (ℕ → Bool) → ℕ → ℕ → ℕ → Bool
kept mover answer k p q = implies (ltb p k && mover p) (answer q)

module _ (M N : Machine) where
  -- a test that all pass
  pub narrowed_none : (test : ℕ → ℕ → Bool) (b : Board) → ((p q : ℕ) → test p q ≡ true) → Narrowed M N test b b
  narrowed_none test b e = record { next = λ p q h l. let t = e p q in grind (arith, nat_tests); stands = refl; changed = refl }

  -- the same test
  pub narrowed_alike : (f g : ℕ → ℕ → Bool) (a b : Board) → ((p q : ℕ) → p < M.size → q < N.size → f p q ≡ g p q) → Narrowed M N f a b → Narrowed M N g a b
  narrowed_alike f g a b e x = record { next = λ p q h l. x.next p q h l ∙ ap (λ (t : Bool). in_rows a.next p q && t) (e p q h l); stands = x.stands; changed = x.changed }

  -- two tests
  pub narrowed_both : (f g h : ℕ → ℕ → Bool) (a b c : Board) → Narrowed M N f a b → Narrowed M N g b c → ((p q : ℕ) → h p q ≡ (f p q && g p q)) → Narrowed M N h a c
  narrowed_both f g h a b c x y e = record {
    next = λ p q k l. let t = e p q in let u = x.next p q k l in let v = y.next p q k l in grind (arith, nat_tests);
    stands = y.stands ∙ x.stands;
    changed = y.changed ∙ x.changed;
  }

  -- no number is tested yet
  pub narrowed_start : (f : ℕ → ℕ → ℕ → Bool) (b : Board) → Narrowed M N (λ p q. each_below 0 (f p q)) b b
  unfolding each_below
  narrowed_start f b = narrowed_none _ b (λ p q. refl)

  module _ (f : ℕ → ℕ → ℕ → Bool) (k : ℕ) (was b : Board) (done : Narrowed M N (λ p q. each_below k (f p q)) was b) where
    -- the test of one number more
    pub narrowed_more : (c : Board) → Narrowed M N (λ p q. f p q k) b c → Narrowed M N (λ p q. each_below (k + 1) (f p q)) was c
    unfolding each_below
    narrowed_more c e = narrowed_both _ _ _ was b c done e (λ p q. rw add-one (grind (arith, nat_tests)))

    -- which all pass
    pub narrowed_skip : ((p q : ℕ) → f p q k ≡ true) → Narrowed M N (λ p q. each_below (k + 1) (f p q)) was b
    narrowed_skip t = narrowed_more b (narrowed_none (λ p q. f p q k) b t)

  module _ (mover answer : ℕ → Bool) where
    module _ (k : ℕ) (was b : Board) (done : Narrowed M N (kept mover answer k) was b) where
      -- one state more
      pub kept_more : (r : Row) → k < length b.next → mover k ≡ true → ((q : ℕ) → in_row r q ≡ (in_rows b.next k q && answer q)) → Narrowed M N (kept mover answer (k + 1)) was (record b { next = set b.next k r })
      kept_more r h m e =
          narrowed_both (kept mover answer k) (λ p q. implies (eqb k p && mover p) (answer q)) (kept mover answer (k + 1)) was b (record b { next = set b.next k r }) done
          (record {
            next = λ p q i l. ⊎_elim
                (λ (z : k ≡ p).
                subst (λ (x : ℕ). in_rows (set b.next k r) x q ≡ (in_rows b.next x q && implies (eqb k x && mover x) (answer q))) z
                (ap (λ (x : Row). in_row x q) (get_or-set_same b.next k r none h) ∙ e q ∙ taken (in_rows b.next k q) (answer q) (eqb k k) (mover k) (eq-eqb k k refl) m))
                (λ (z : k ≡ p → ⊥).
                ap (λ (x : Row). in_row x q) (get_or-set_other b.next k p r none (λ w. z (sym w))) ∙ passed (in_rows b.next p q) (answer q) (eqb k p) (mover p) (ne_eqb k p z))
                (cases_eq k p);
            stands = refl;
            changed = refl;
          })
          (λ p q. grind (arith, nat_tests))

      -- where k does not move
      pub kept_same : mover k ≡ false → Narrowed M N (kept mover answer (k + 1)) was b
      kept_same m = narrowed_alike (kept mover answer k) (kept mover answer (k + 1)) was b (λ p q h l. grind (arith, nat_tests)) done
