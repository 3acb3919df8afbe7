use Rattle.std.proofs.Common.{◌≡◌, ℕ, suc, ◌+◌, ◌<◌, ◌≤◌, eqb, ltb, ◌⊎◌, List, [], ◌∷◌, ◌++◌, length, Ok, Err, sym, refl, ap, ◌∙◌, subst, inl, inr, arith}
use Rattle.std.specs.List.{AllByRecursion}
use Rattle.std.proofs.lemmas.List.{append_assoc}
use Rattle.std.proofs.lemmas.Bool.{cases_Bool, ltb-true, ltb-false, lt-ltb, eqb-false}
use Rattle.table.specs.declared.fault.Fault.{Fault}
use Rattle.source.specs.declared.table.Move.{Move}
use Rattle.std.specs.List.{onto_first}
use Rattle.table.specs.Text.{pieces}
use Rattle.table.specs.Table.{and_then, head_line, move_line, moves_from, listing_from, read_text, Listing, with_moves}
use Rattle.table.specs.Write.{parted, move_fields, head_fields, write, WellFormedMove, WellFormed}
use Rattle.table.specs.Faults.{Free, MoveFault, Faulty, RefusesTheFirstFault}
use Rattle.table.proofs.Results.{no_ok, same_fault, then_err, fault_is}
use Rattle.table.proofs.Cuts.{pieces_some, pieces_past, pieces_last}
use Rattle.table.proofs.Parting.{parted_pieces}
use Rattle.table.proofs.Turns.{read_short}
use Rattle.table.proofs.Fields.{move_ok, head_ok}
use Rattle.table.proofs.Law.{rows, listing_past}
use Rattle.table.proofs.Refused.{move_err, head_err, move_refused, head_refused}

-- no byte b stands in the pieces between the bytes b
free_onto_first : (b x : ℕ) (ps : List (List ℕ)) → (x ≡ b → ⊥) → AllByRecursion (Free b) ps → AllByRecursion (Free b) (onto_first x ps)
free_onto_first b x [] n h = ((n, tt), tt)
free_onto_first b x (p ∷ ps) n h = ((n, h.0), h.1)

-- no piece between the bytes b has one
pieces_free : (b : ℕ) (xs : List ℕ) → AllByRecursion (Free b) (pieces b xs)
pieces_free b [] = (tt, tt)
pieces_free b (x ∷ xs) =
    elim (cases_Bool (eqb x b)) [
      | inl t ↦ rw t (tt, pieces_free b xs)
      | inr f ↦ rw f (free_onto_first b x (pieces b xs) (eqb-false x b f) (pieces_free b xs))
    ]

-- a text from line k on, with the fault in its first line
abbrev Here : ℕ → ℕ → List ℕ → Fault → Type 0
Here n k text f = ((0 < length text) × Free 10 text × (f ≡ Fault.Unended k)) ⊎ ((l : List ℕ) × (r : List ℕ) × (text ≡ l ++ 10 ∷ r) × Free 10 l × MoveFault n k (pieces 44 l) f)

-- the same after some moves
abbrev Blame : ℕ → ℕ → List ℕ → Fault → Type 0
Blame n k text f = (ms : List Move) × (r : List ℕ) × AllByRecursion (WellFormedMove n) ms × (text ≡ rows ms ++ r) × Here n (k + length ms) r f

-- a line in front of others, in the form that writing has
in_front : (l fields more rest : List ℕ) → l ≡ fields → l ++ 10 ∷ (more ++ rest) ≡ ((fields ++ 10 ∷ []) ++ more) ++ rest
in_front l fields more rest e =
    ap (λ (ys : List ℕ). ys ++ 10 ∷ (more ++ rest)) e ∙
    sym (append_assoc fields (10 ∷ []) (more ++ rest)) ∙
    sym (append_assoc (fields ++ 10 ∷ []) more rest)

-- move lines that are refused have a first fault
moves_blame : (n k : ℕ) (p : List ℕ) (ps : List (List ℕ)) (f : Fault) → 0 < n → n ≤ 256 → AllByRecursion (Free 10) (p ∷ ps) → moves_from n k (p ∷ ps) ≡ Err f → Blame n k (parted 10 (p ∷ ps)) f
moves_blame n k [] [] f z l fr h = no_ok f [] h
moves_blame n k (x ∷ p) [] f z l fr h =
    let e : k + 0 ≡ k = omega arith in
    ([], x ∷ p, tt, refl, inl (omega arith, fr.0, sym (same_fault {A = List Move} (Fault.Unended k) f h) ∙ ap (λ j. Fault.Unended j) (sym e)))
moves_blame n k p (q ∷ ps) f z l fr h =
    elim (then_err (move_line n k (pieces 44 p)) (λ x. and_then (moves_from n (k + 1) (q ∷ ps)) (λ xs. Ok (x ∷ xs))) f h) [
      | inl a ↦
          let e : k ≡ k + 0 = omega arith in
          ([], p ++ 10 ∷ parted 10 (q ∷ ps), tt, refl, inr (p, parted 10 (q ∷ ps), refl, fr.0, subst (λ j. MoveFault n j (pieces 44 p) f) e (move_err n k (pieces 44 p) f z l a)))
      | inr a ↦
          let r = moves_blame n (k + 1) q ps f z l fr.1 (fault_is (more a.0) (moves_from n (k + 1) (q ∷ ps)) f a.2) in
          let m = move_ok n k (pieces 44 p) a.0 z l a.1 in
          let one : p ≡ parted 44 (move_fields a.0) = sym (parted_pieces 44 p) ∙ ap (parted 44) m.1 in
          let e : k + 1 + length r.0 ≡ k + suc (length r.0) = omega arith in
          let text : p ++ 10 ∷ parted 10 (q ∷ ps) ≡ rows (a.0 ∷ r.0) ++ r.1 =
          ap (λ (ys : List ℕ). p ++ 10 ∷ ys) r.3 ∙ in_front p (parted 44 (move_fields a.0)) (rows r.0) r.1 one in
          (a.0 ∷ r.0, r.1, (m.0, r.2), text, subst (λ j. Here n j r.1 f) e r.4)
    ]
  where
    more : Move → List Move → List Move
    more x xs = x ∷ xs

-- lines that are refused have a first fault
listing_blame : (text p : List ℕ) (ps : List (List ℕ)) (f : Fault) → text ≡ parted 10 (p ∷ ps) → AllByRecursion (Free 10) (p ∷ ps) → listing_from 1 (p ∷ ps) ≡ Err f → Faulty text f
listing_blame text p [] f e fr h = subst (Faulty text) (same_fault {A = Listing} (Fault.Unended 1) f h) (Faulty.no_line (subst (Free 10) (sym e) fr.0))
listing_blame text p (q ∷ ps) f e fr h =
    elim (then_err (head_line 1 (pieces 44 p)) (λ u. and_then (moves_from u.states (1 + 1) (q ∷ ps)) (λ ms. Ok (with_moves u ms))) f h) [
      | inl a ↦ Faulty.in_head p (parted 10 (q ∷ ps)) f e fr.0 (head_err (pieces 44 p) f a)
      | inr a ↦
          let m = head_ok 1 (pieces 44 p) a.0 a.1 in
          let r = moves_blame a.0.states (1 + 1) q ps f m.0 (omega arith) fr.1 (fault_is (with_moves a.0) (moves_from a.0.states (1 + 1) (q ∷ ps)) f a.2) in
          let t : Listing = with_moves a.0 r.0 in
          let formed : WellFormed t = (m.0, m.1, m.2, r.2) in
          let one : p ≡ parted 44 (head_fields a.0.states a.0.start) = sym (parted_pieces 44 p) ∙ ap (parted 44) m.3 in
          let whole : text ≡ write t ++ r.1 =
          e ∙ ap (λ (ys : List ℕ). p ++ 10 ∷ ys) r.3 ∙ in_front p (parted 44 (head_fields a.0.states a.0.start)) (rows r.0) r.1 one in
          elim r.4 [
            | inl b ↦ subst (Faulty text) (sym b.2) (Faulty.no_end t r.1 formed whole b.0 b.1)
            | inr b ↦ Faulty.in_move t b.0 b.1 f formed (whole ∙ ap (λ (ys : List ℕ). write t ++ ys) b.2) b.3 b.4
          ]
    ]

-- a text that is refused has the fault
there : (text : List ℕ) (f : Fault) → read_text text ≡ Err f → ((40960 < length text) × (f ≡ Fault.TooLong)) ⊎ ((length text ≤ 40960) × Faulty text f)
there text f h =
    elim (cases_Bool (ltb 40960 (length text))) [
      | inl b ↦ inl (ltb-true 40960 (length text) b, sym (same_fault {A = Listing} Fault.TooLong f (rw b at h)))
      | inr b ↦
          let p = pieces_some 10 text in
          let h' : listing_from 1 (pieces 10 text) ≡ Err f = rw b at h in
          inr (ltb-false 40960 (length text) b, listing_blame text p.0 p.1 f (sym (parted_pieces 10 text) ∙ ap (parted 10) p.2) (subst (AllByRecursion (Free 10)) p.2 (pieces_free 10 text)) (ap (listing_from 1) (sym p.2) ∙ h'))
    ]

-- a rest that is refused, after a listing that is written
after_listing : (text : List ℕ) (t : Listing) (r : List ℕ) (f : Fault) → WellFormed t → text ≡ write t ++ r → moves_from t.states (2 + length t.moves) (pieces 10 r) ≡ Err f → listing_from 1 (pieces 10 text) ≡ Err f
after_listing text t r f w e h = ap (λ (ys : List ℕ). listing_from 1 (pieces 10 ys)) e ∙ listing_past t r w ∙ rw h

-- a last line that does not end
open_refused : (n k : ℕ) (l : List ℕ) → 0 < length l → moves_from n k (l ∷ []) ≡ Err (Fault.Unended k)
open_refused n k [] h = absurd (omega arith)
open_refused n k (x ∷ l) h = refl

-- a text that has the fault is refused with it
back : (text : List ℕ) (f : Fault) → Faulty text f → listing_from 1 (pieces 10 text) ≡ Err f
back text f (Faulty.no_line h) = ap (listing_from 1) (pieces_last 10 text h)
back text f (Faulty.in_head l r g e h m) =
    let p = pieces_some 10 r in
    ap (λ (ys : List ℕ). listing_from 1 (pieces 10 ys)) e ∙ ap (listing_from 1) (pieces_past 10 l r h) ∙ rw (p.2, head_refused (pieces 44 l) f m)
back text f (Faulty.no_end t r w e some h) = after_listing text t r f w e (ap (moves_from t.states (2 + length t.moves)) (pieces_last 10 r h) ∙ open_refused t.states (2 + length t.moves) r some)
back text f (Faulty.in_move t l r g w e h m) =
    let p = pieces_some 10 r in
    after_listing text t (l ++ 10 ∷ r) f w e (ap (moves_from t.states (2 + length t.moves)) (pieces_past 10 l r h) ∙ rw (p.2, move_refused t.states (2 + length t.moves) (pieces 44 l) f w.0 (omega arith) m))

-- both ways: a text is refused with a fault just if it has it and none before it
pub refuses_the_first_fault : RefusesTheFirstFault
refuses_the_first_fault text f = (
  there text f,
  elim [
    | inl p ↦ let e = lt-ltb 40960 (length text) p.0 in rw (e, p.1)
    | inr p ↦ read_short text p.0 ∙ back text f p.1
  ],
)
