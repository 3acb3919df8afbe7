-- The promises, from what stands.
use Rattle.std.proofs.Common.{◌≡◌, ℕ, zero, suc, ◌&&◌, T, eqb, ltb, Some, None, sym, refl, ap, ◌∙◌, subst, subst₂, ⊎_elim}
use Rattle.std.proofs.lemmas.Bool.{eq-eqb, eqb-true, lt-ltb, and_from, and_parts}
use Rattle.lts.specs.Machines.{Machine, Sound, Fits}
use Rattle.lts.specs.Conformance.{MachineConforms}
use Rattle.lts.proofs.Proper.{Proper, proper, is_true}
use Rattle.lts.proofs.Lawful.{contexts_keep_conformance}
use Rattle.clauses.specs.Candidates.{first_failing}
use Rattle.clauses.specs.declared.counterexample.Counterexample.{Counterexample}
use Rattle.clauses.proofs.Firsts.{cases_option}
use Rattle.ranks.specs.Rounds.{stands, ranks_after}
use Rattle.judge.specs.declared.verdict.Answer.TheVariants.{Yes, No}
use Rattle.judge.specs.Verdicts.{start_rank, no_by, answer_by, answer, verdict}
use Rattle.judge.specs.Promises.{standing_pairs, LargestRelation, ContextKeepsYes}
use Rattle.judge.proofs.Struck.{struck_some}
use Rattle.judge.proofs.Held.{start_in}
use Rattle.judge.proofs.Refused.{accepts}
use Rattle.judge.proofs.Standing.{standing_meets, standing_holds}
use Rattle.judge.proofs.AnyRelation.{any_holds}

-- no is not yes
pub no_yes : (k : ℕ) (c : Counterexample) → No k c ≡ Yes → ⊥
no_yes k c e = cc

module _ (M N : Machine) (s : Sound M) (u : Sound N) (f : Fits M) (g : Fits N) where
  yes_rank : (r : ℕ) → start_rank M N ≡ r → answer_by M N r ≡ Yes → r ≡ 0
  yes_rank zero e y = refl
  yes_rank (suc k) e y = absurd (⊎_elim
      (λ (z : first_failing M N (stands N (ranks_after M N k)) M.start N.start ≡ None). struck_some M N k M.start N.start (start_in M s f) (start_in N u g) e z)
      (λ (z : (c : Counterexample) × (first_failing M N (stands N (ranks_after M N k)) M.start N.start ≡ Some c)). no_yes (suc k) z.0 (sym (ap (no_by (suc k)) z.1) ∙ y))
      (cases_option (first_failing M N (stands N (ranks_after M N k)) M.start N.start)))

  -- yes of starts that stand
  pub yes_stands : answer M N ≡ Yes → T (standing_pairs M N M.start N.start)
  unfolding answer standing_pairs
  yes_stands y = subst T (sym (and_from _ _ (and_from _ _ (lt-ltb M.start M.size (start_in M s f)) (lt-ltb N.start N.size (start_in N u g)))
      (eq-eqb (start_rank M N) 0 (yes_rank (start_rank M N) refl y)))) tt

  -- and back
  pub stands_yes : T (standing_pairs M N M.start N.start) → answer M N ≡ Yes
  unfolding answer standing_pairs
  stands_yes t = ap (answer_by M N) (eqb-true (start_rank M N) 0 (and_parts (ltb M.start M.size && ltb N.start N.size) (eqb (start_rank M N) 0) (is_true _ t)).1)

  -- both machines with what soundness says of them
  m : Proper M
  m = proper M s f

  n : Proper N
  n = proper N u g

  -- a module that conforms is judged so
  pub conforms_yes : MachineConforms M N → answer M N ≡ Yes
  conforms_yes c = stands_yes (standing_holds M N m n c.by c.meets M.start N.start (start_in M s f) (start_in N u g) c.starts)

  -- the pairs that stand are the largest relation
  pub largest_relation : (R : ℕ → ℕ → Type 0) → LargestRelation M N R
  largest_relation R = record {
    exactly = λ p q a b. (
      (λ t. record { by = standing_pairs M N; meets = standing_meets M N m n; holds = t }),
      (λ r. standing_holds M N m n r.by r.meets p q a b r.holds),
    );
    meets = standing_meets M N m n;
    any = λ c. any_holds M N m n R c;
    yes = (yes_stands, stands_yes);
    conforming = ((λ y. record { by = standing_pairs M N; meets = standing_meets M N m n; starts = yes_stands y }), conforms_yes);
  }

-- one context over both
pub context_keeps_yes : (M N : Machine) (room : ℕ) → Sound M → Sound N → ContextKeepsYes M N room
context_keeps_yes M N room s u xs M₀ N₀ s₀ u₀ em en c f g h =
    let d : MachineConforms M N = subst₂ (λ (x y : Machine). MachineConforms x y) (sym em) (sym en)
    (contexts_keep_conformance xs M₀ N₀ s₀ u₀ (subst Fits em f) (subst Fits en g) c) in
    (verdict M N, accepts M N f g room (verdict M N) h, conforms_yes M N s u f g d)
