use Rattle.std.proofs.Common.{◌≡◌, ◌+◌, List, [], ◌∷◌, ◌++◌, map, length, drop, Some, None, Option, sym, refl, ap, ◌∙◌}
use Rattle.std.proofs.lemmas.List.{append-nil, at_drop_more, take-append-drop}
use Rattle.std.proofs.lemmas.Iterator.{YieldsList}
use Rattle.std.proofs.lemmas.Iterator.Consumers.{YieldsList-so_far, YieldsList-turn, YieldsList-end}
use Rattle.std.specs.Fn.{Called}
use Rattle.std.specs.List.{FoldsTo}
use Rattle.std.specs.Option.{MatchOption, option_and_then}
use Rattle.std.specs.Iterator.{YieldsThen}
use denote.Param.Members.{Mut}

-- a fold by a step that may fail
abbrev pub folds : {B C : Type 0} → (B → C → Option B) → B → List C → Option B
folds h b [] = Some b
folds h b (x ∷ xs) = option_and_then (λ c. folds h c xs) (h b x)

-- what `try_fold` gives is that fold, where the closure gives the step
module _ {A B C F : Type 0} (g : Mut F (B × (A × Unit {0})) (Option B)) (v : A → C) (h : B → C → Option B) (one : (f : F) (b : B) (x : A) (r : Option B) (q : F) → Called g f (b, (x, tt)) r q → r ≡ h b (v x)) where
  on : (f q : F) (b c : B) (xs : List A) (ys : List C) → FoldsTo {P = F × B} (λ p x j. (r : Option B) × Called g p.0 (p.1, (x, tt)) r j.0 × (r ≡ Some j.1)) (f, b) xs (q, c) → folds h b (map v xs ++ ys) ≡ folds h c ys
  on f q b c [] ys k = ap (λ (p : F × B). folds h p.1 ys) k
  on f q b c (x ∷ xs) ys (j, (r, k, e), l) = let t : h b (v x) ≡ Some j.1 = sym (one f b x r j.0 k) ∙ e in rw t (on j.0 q j.1 c xs ys l)

  pub folded : {S : Type 0} {steps : S → Option A → S → Type 0} {s : S} {all : List C} (E : Type 0) (u : S) (f q : F) (b c : B) (xs : List A) (o : Option A) (r : Option B) → YieldsThen steps s xs o u → FoldsTo {P = F × B} (λ p x j. (w : Option B) × Called g p.0 (p.1, (x, tt)) w j.0 × (w ≡ Some j.1)) (f, b) xs (q, c) → MatchOption o (r ≡ Some c) (λ x. (w : Option B) × (k : F) × E × Called g q (c, (x, tt)) w k × (w ≡ None) × (r ≡ None)) → YieldsList steps v s all → r ≡ folds h b all
  folded E u f q b c xs None r (t, ys, st) k e y =
      let w = YieldsList-end y xs t ys None u refl st in
      e ∙ sym (on f q b c xs [] k) ∙ ap (folds h b) (append-nil (map v xs) ∙ w.0)
  folded {all = all} E u f q b c xs (Some x) r (t, ys, st) k (w, j, _, called, none, e) y =
      let n = YieldsList-turn y xs t ys (Some x) u x refl st in
      let past = YieldsList-so_far y xs t ys in
      let stop : h c (v x) ≡ None = sym (one q c x w j called) ∙ none in
      let stops : folds h c (v x ∷ drop (length xs + 1) all) ≡ None = rw stop in
      e ∙ sym stops ∙ ap (λ z. folds h c (z ∷ drop (length xs + 1) all)) n.1 ∙ sym (at_drop_more (folds h c) all (length xs) (v x) n.0) ∙
      sym (on f q b c xs (drop (length xs) all) k) ∙ ap (λ (zs : List C). folds h b (zs ++ drop (length xs) all)) past ∙ ap (folds h b) (take-append-drop (length xs) all)
