use Rattle.std.proofs.Common.{◌≡◌, ℕ, ◌+◌, ◌<◌, ◌≤◌, cond, eqb, ◌⊎◌, List, [], ◌∷◌, length, Ok, Err, codes, Result, sym, refl, ap, ◌∙◌, subst, inl, inr, arith}
use Rattle.table.specs.declared.fault.Fault.{Fault}
use Rattle.source.specs.declared.table.Move.{Move}
use Rattle.table.specs.declared.head.Head.{Head}
use Rattle.table.specs.declared.field.Way.{Way}
use Rattle.table.specs.declared.field.Way.TheVariants.{Receive, Send, Silent}
use Rattle.table.specs.declared.line.Kind.{Kind}
use Rattle.table.specs.Text.{figure_below}
use Rattle.table.specs.Table.{and_then, number_at, states_at, way_in, way_at, label_at, move_of, head_of, kind_of, if_table, if_move, head_line, move_line}
use Rattle.table.specs.Faults.{nth_field, IsFigure, IsStates, IsWay, IsName, Shaped, MoveFault, HeadFault}
use Rattle.table.proofs.Results.{no_err, no_ok, same_fault, then_ok, then_err, fault_is, ok_or_ok, ok_or_err, refused_as}
use Rattle.table.proofs.Shapes.{three_of, five_of}
use Rattle.table.proofs.Fields.{way_bytes, way_in_ok, number_ok, number_from, states_ok, states_from, move_ok, head_ok, kind_move, kind_table, after_from, after_way, after_label}

-- a figure below the limit is read; any other field is refused, and in one way only
number_read : (limit k i : ℕ) (s : List ℕ) → limit ≤ 256 → (p : IsFigure limit s) → number_at limit k i s ≡ Ok p.0
number_read limit k i s l p = ap (number_at limit k i) p.2 ∙ number_from limit k i p.0 l p.1

-- a number is refused in one way only
number_fault : (limit k i : ℕ) (s : List ℕ) (f : Fault) → number_at limit k i s ≡ Err f → f ≡ Fault.Figure k i
number_fault limit k i s f h = ok_or_err (figure_below limit s) (Fault.Figure k i) f h

-- what is refused is no figure
no_figure : (limit k i : ℕ) (s : List ℕ) (f : Fault) → limit ≤ 256 → number_at limit k i s ≡ Err f → IsFigure limit s → ⊥
no_figure limit k i s f l h p = no_ok f p.0 (sym (number_read limit k i s l p) ∙ h)

-- what is no figure is refused
number_refused : (limit k i : ℕ) (s : List ℕ) → 0 < limit → limit ≤ 256 → (IsFigure limit s → ⊥) → number_at limit k i s ≡ Err (Fault.Figure k i)
number_refused limit k i s z l never =
    refused_as (number_at limit k i s) (Fault.Figure k i) (λ n e. let p = number_ok limit k i n s z l e in never (n, p.0, p.1)) (number_fault limit k i s)

-- the same for the number of states
states_read : (k n : ℕ) (s : List ℕ) → IsStates n s → states_at k 2 s ≡ Ok n
states_read k n s p = ap (states_at k 2) p.2 ∙ states_from k n p.0 p.1

-- the number of states is refused in one way only
states_fault : (k : ℕ) (s : List ℕ) (f : Fault) → states_at k 2 s ≡ Err f → f ≡ Fault.Figure k 2
states_fault k s f h = by_number (number_at 256 k 2 s) (number_fault 256 k 2 s f) h
  where
    by_number : (r : Result ℕ Fault) → (r ≡ Err f → f ≡ Fault.Figure k 2) → and_then r (λ n. cond (eqb n 0) (Err (Fault.Figure k 2)) (Ok n)) ≡ Err f → f ≡ Fault.Figure k 2
    by_number r only e = grind arith

-- what is no number of states is refused
states_refused : (k : ℕ) (s : List ℕ) → ((n : ℕ) → IsStates n s → ⊥) → states_at k 2 s ≡ Err (Fault.Figure k 2)
states_refused k s never = refused_as (states_at k 2 s) (Fault.Figure k 2) (λ n e. never n (states_ok k n s e)) (states_fault k s)

-- the same for the way
is_way : (w : Way) (s : List ℕ) → s ≡ way_bytes w → IsWay s
is_way Receive s e = inl e
is_way Send s e = inr (inl e)
is_way Silent s e = inr (inr e)

-- a way is read
way_read : (k : ℕ) (s : List ℕ) → IsWay s → (w : Way) × (s ≡ way_bytes w) × (way_at k s ≡ Ok w)
way_read k s (inl e) = (Receive, e, ap (way_at k) e)
way_read k s (inr (inl e)) = (Send, e, ap (way_at k) e)
way_read k s (inr (inr e)) = (Silent, e, ap (way_at k) e)

-- what is read is a way
way_ok : (k : ℕ) (s : List ℕ) (w : Way) → way_at k s ≡ Ok w → s ≡ way_bytes w
way_ok k s w h = way_in_ok s w (ok_or_ok (way_in s) (Fault.Way k) w h)

-- a way is refused in one way only
way_fault : (k : ℕ) (s : List ℕ) (f : Fault) → way_at k s ≡ Err f → f ≡ Fault.Way k
way_fault k s f h = ok_or_err (way_in s) (Fault.Way k) f h

-- what is refused is no way
no_way : (k : ℕ) (s : List ℕ) (f : Fault) → way_at k s ≡ Err f → IsWay s → ⊥
no_way k s f h p = let w = way_read k s p in no_ok f w.0 (sym w.2 ∙ h)

-- what is no way is refused
way_refused : (k : ℕ) (s : List ℕ) → (IsWay s → ⊥) → way_at k s ≡ Err (Fault.Way k)
way_refused k s never = refused_as (way_at k s) (Fault.Way k) (λ w e. never (is_way w s (way_ok k s w e))) (way_fault k s)

-- another way than -
abbrev first : List ℕ → ℕ
first [] = 0
first (x ∷ xs) = x

-- another byte than - is not the silent way
not_silent : (b : ℕ) (way : List ℕ) → way ≡ b ∷ [] → (b ≡ 45 → ⊥) → way ≡ codes "-" → ⊥
not_silent b way e n d = n (ap first (sym e ∙ d))

-- the same for the name, by its way
abbrev NameFault : ℕ → List ℕ → List ℕ → Fault → Type 0
NameFault k way s f = ((way ≡ codes "-" → ⊥) × (IsFigure 32 s → ⊥) × (f ≡ Fault.Figure k 4)) ⊎ ((way ≡ codes "-") × (s ≡ [] → ⊥) × (f ≡ Fault.SilentName k))

-- what is refused is no name
label_err : (k : ℕ) (w : Way) (way s : List ℕ) (f : Fault) → way ≡ way_bytes w → label_at k 4 w s ≡ Err f → NameFault k way s f
label_err k Receive way s f e h = inl (not_silent 63 way e (λ d. omega arith), no_figure 32 k 4 s f (omega arith) h, number_fault 32 k 4 s f h)
label_err k Send way s f e h =
    let g = fault_is (λ n. n + 32) (number_at 32 k 4 s) f h in
    inl (not_silent 33 way e (λ d. omega arith), no_figure 32 k 4 s f (omega arith) g, number_fault 32 k 4 s f g)
label_err k Silent way [] f e h = no_ok f 64 h
label_err k Silent way (x ∷ s) f e h = inr (e, (λ d. cc), sym (same_fault {A = ℕ} (Fault.SilentName k) f h))

-- what is read is a name
label_named : (k l : ℕ) (w : Way) (way s : List ℕ) → way ≡ way_bytes w → label_at k 4 w s ≡ Ok l → IsName way s
label_named k l Receive way s e h = let p = number_ok 32 k 4 l s (omega arith) (omega arith) h in inr (not_silent 63 way e (λ d. omega arith), (l, p.0, p.1))
label_named k l Send way s e h =
    let q = then_ok (number_at 32 k 4 s) (λ n. Ok (n + 32)) l h in
    let p = number_ok 32 k 4 q.0 s (omega arith) (omega arith) q.1 in
    inr (not_silent 33 way e (λ d. omega arith), (q.0, p.0, p.1))
label_named k l Silent way [] e h = inl (e, refl)
label_named k l Silent way (x ∷ s) e h = no_err (Fault.SilentName k) l h

-- a reading of a number, made a label of sending
abbrev sent : Result ℕ Fault → Result ℕ Fault
sent r = and_then r (λ n. Ok (n + 32))

-- a name is read
label_read : (k : ℕ) (w : Way) (way s : List ℕ) → way ≡ way_bytes w → IsName way s → (l : ℕ) × (label_at k 4 w s ≡ Ok l)
label_read k Receive way s e (inl p) = absurd (not_silent 63 way e (λ d. omega arith) p.0)
label_read k Receive way s e (inr p) = (p.1.0, number_read 32 k 4 s (omega arith) p.1)
label_read k Send way s e (inl p) = absurd (not_silent 33 way e (λ d. omega arith) p.0)
label_read k Send way s e (inr p) = (p.1.0 + 32, ap sent (number_read 32 k 4 s (omega arith) p.1))
label_read k Silent way s e (inl p) = (64, ap (label_at k 4 Silent) p.1)
label_read k Silent way s e (inr p) = absurd (p.0 e)

-- what is no figure is refused, where a name is wanted
name_refused : (k : ℕ) (w : Way) (way s : List ℕ) → way ≡ way_bytes w → (way ≡ codes "-" → ⊥) → (IsFigure 32 s → ⊥) → label_at k 4 w s ≡ Err (Fault.Figure k 4)
name_refused k Receive way s e d never = number_refused 32 k 4 s (omega arith) (omega arith) never
name_refused k Send way s e d never = ap sent (number_refused 32 k 4 s (omega arith) (omega arith) never)
name_refused k Silent way s e d never = absurd (d e)

-- any name is refused, where none is wanted
silent_refused : (k : ℕ) (s : List ℕ) → (s ≡ [] → ⊥) → label_at k 4 Silent s ≡ Err (Fault.SilentName k)
silent_refused k [] never = absurd (never refl)
silent_refused k (x ∷ s) never = refl

-- a line of another kind is misshapen
if_move_err : {A : Type 0} (w : Kind) (r : Result A Fault) (e f : Fault) → if_move w r (Err e) ≡ Err f → ((w ≡ Kind.Move → ⊥) × (e ≡ f)) ⊎ ((w ≡ Kind.Move) × (r ≡ Err f))
if_move_err w r e f h = grind arith

-- the same for a first line
if_table_err : {A : Type 0} (w : Kind) (r : Result A Fault) (e f : Fault) → if_table w r (Err e) ≡ Err f → ((w ≡ Kind.Table → ⊥) × (e ≡ f)) ⊎ ((w ≡ Kind.Table) × (r ≡ Err f))
if_table_err w r e f h = grind arith

-- a line of other than five fields is no move line
not_five : (n k : ℕ) (fs : List (List ℕ)) (f : Fault) → (length fs ≡ 5 → ⊥) → ◌≡◌ {A = Result Move Fault} (Err (Fault.Misshapen k)) (Err f) → MoveFault n k fs f
not_five n k fs f q h = subst (MoveFault n k fs) (same_fault {A = Move} (Fault.Misshapen k) f h) (MoveFault.shape (λ s. q s.1))

-- and one of other than three no first line
not_three : (fs : List (List ℕ)) (f : Fault) → (length fs ≡ 3 → ⊥) → ◌≡◌ {A = Result Head Fault} (Err (Fault.Misshapen 1)) (Err f) → HeadFault fs f
not_three fs f q h = subst (HeadFault fs) (same_fault {A = Head} (Fault.Misshapen 1) f h) (HeadFault.shape (λ s. q s.1))

-- the fields after the word `move`: which of them is refused
move_of_err : (n k : ℕ) (w : List ℕ) (gs : List (List ℕ)) (f : Fault) → w ≡ codes "move" → 0 < n → n ≤ 256 → move_of n k gs ≡ Err f → MoveFault n k (w ∷ gs) f
move_of_err n k w [] f e z l h = not_five n k (w ∷ []) f (λ q. omega arith) h
move_of_err n k w (a ∷ []) f e z l h = not_five n k (w ∷ a ∷ []) f (λ q. omega arith) h
move_of_err n k w (a ∷ b ∷ []) f e z l h = not_five n k (w ∷ a ∷ b ∷ []) f (λ q. omega arith) h
move_of_err n k w (a ∷ b ∷ c ∷ []) f e z l h = not_five n k (w ∷ a ∷ b ∷ c ∷ []) f (λ q. omega arith) h
move_of_err n k w (from ∷ way ∷ name ∷ to ∷ []) f e z l h =
    elim (then_err (number_at n k 2 from) (λ p. after_from n k way name to p) f h) [
      | inl a ↦ subst (MoveFault n k fs) (sym (number_fault n k 2 from f a)) (MoveFault.from sh (no_figure n k 2 from f l a))
      | inr p ↦
          let pn = number_ok n k 2 p.0 from z l p.1 in
          let g2 : IsFigure n from = (p.0, pn.0, pn.1) in
          elim (then_err (way_at k way) (λ v. after_way n k name to p.0 v) f p.2) [
            | inl a ↦ subst (MoveFault n k fs) (sym (way_fault k way f a)) (MoveFault.way sh g2 (no_way k way f a))
            | inr v ↦
                let vs = way_ok k way v.0 v.1 in
                elim (then_err (label_at k 4 v.0 name) (λ b. after_label n k to p.0 b) f v.2) [
                  | inl a ↦ elim (label_err k v.0 way name f vs a) [
                    | inl q ↦ subst (MoveFault n k fs) (sym q.2) (MoveFault.name sh g2 (is_way v.0 way vs) q.0 q.1)
                    | inr q ↦ subst (MoveFault n k fs) (sym q.2) (MoveFault.silent sh g2 q.0 q.1)
                  ]
                  | inr b ↦
                      let q = fault_is (last p.0 b.0) (number_at n k 5 to) f b.2 in
                      subst (MoveFault n k fs) (sym (number_fault n k 5 to f q)) (MoveFault.to sh g2 (is_way v.0 way vs) (label_named k b.0 v.0 way name vs b.1) (no_figure n k 5 to f l q))
                ]
          ]
    ]
  where
    fs : List (List ℕ)
    fs = w ∷ from ∷ way ∷ name ∷ to ∷ []

    sh : Shaped (codes "move") 5 (w ∷ from ∷ way ∷ name ∷ to ∷ [])
    sh = (e, refl)

    last : ℕ → ℕ → ℕ → Move
    last p b q = record { from = p; label = b; to = q }
move_of_err n k w (a ∷ b ∷ c ∷ d ∷ g ∷ gs) f e z l h = not_five n k (w ∷ a ∷ b ∷ c ∷ d ∷ g ∷ gs) f (λ q. omega arith) h

-- a move line that is refused has the fault
pub move_err : (n k : ℕ) (fs : List (List ℕ)) (f : Fault) → 0 < n → n ≤ 256 → move_line n k fs ≡ Err f → MoveFault n k fs f
move_err n k [] f z l h = not_five n k [] f (λ q. omega arith) h
move_err n k (w ∷ gs) f z l h =
    elim (if_move_err (kind_of w) (move_of n k gs) (Fault.Misshapen k) f h) [
      | inl a ↦ subst (MoveFault n k (w ∷ gs)) a.1 (MoveFault.shape (λ s. a.0 (ap kind_of s.0)))
      | inr a ↦ move_of_err n k w gs f (kind_move w a.0) z l a.1
    ]

-- the fields after the word `table`: which of them is refused
head_of_err : (w : List ℕ) (gs : List (List ℕ)) (f : Fault) → w ≡ codes "table" → head_of 1 gs ≡ Err f → HeadFault (w ∷ gs) f
head_of_err w [] f e h = not_three (w ∷ []) f (λ q. omega arith) h
head_of_err w (a ∷ []) f e h = not_three (w ∷ a ∷ []) f (λ q. omega arith) h
head_of_err w (a ∷ b ∷ []) f e h =
    elim (then_err (states_at 1 2 a) (λ n. and_then (number_at n 1 3 b) (λ s. Ok (record { states = n; start = s }))) f h) [
      | inl x ↦ subst (HeadFault (w ∷ a ∷ b ∷ [])) (sym (states_fault 1 a f x)) (HeadFault.states (e, refl) (λ n p. no_ok f n (sym (states_read 1 n a p) ∙ x)))
      | inr p ↦
          let ps = states_ok 1 p.0 a p.1 in
          let q = fault_is (head p.0) (number_at p.0 1 3 b) f p.2 in
          subst (HeadFault (w ∷ a ∷ b ∷ [])) (sym (number_fault p.0 1 3 b f q)) (HeadFault.start (e, refl) p.0 ps (no_figure p.0 1 3 b f (omega arith) q))
    ]
  where
    head : ℕ → ℕ → Head
    head n s = record { states = n; start = s }
head_of_err w (a ∷ b ∷ c ∷ cs) f e h = not_three (w ∷ a ∷ b ∷ c ∷ cs) f (λ q. omega arith) h

-- a first line that is refused has the fault
pub head_err : (fs : List (List ℕ)) (f : Fault) → head_line 1 fs ≡ Err f → HeadFault fs f
head_err [] f h = not_three [] f (λ q. omega arith) h
head_err (w ∷ gs) f h =
    elim (if_table_err (kind_of w) (head_of 1 gs) (Fault.Misshapen 1) f h) [
      | inl a ↦ subst (HeadFault (w ∷ gs)) a.1 (HeadFault.shape (λ s. a.0 (ap kind_of s.0)))
      | inr a ↦ head_of_err w gs f (kind_table w a.0) a.1
    ]

-- a line in shape is read field by field
shaped_move : (n k : ℕ) (fs : List (List ℕ)) → Shaped (codes "move") 5 fs → move_line n k fs ≡ move_of n k (nth_field fs 2 ∷ nth_field fs 3 ∷ nth_field fs 4 ∷ nth_field fs 5 ∷ [])
shaped_move n k fs s =
    ap (move_line n k) (five_of fs [] s.1) ∙
    ap (λ (w : List ℕ). move_line n k (w ∷ nth_field fs 2 ∷ nth_field fs 3 ∷ nth_field fs 4 ∷ nth_field fs 5 ∷ [])) s.0

-- the same for a first line
shaped_head : (fs : List (List ℕ)) → Shaped (codes "table") 3 fs → head_line 1 fs ≡ head_of 1 (nth_field fs 2 ∷ nth_field fs 3 ∷ [])
shaped_head fs s =
    ap (head_line 1) (three_of fs [] s.1) ∙
    ap (λ (w : List ℕ). head_line 1 (w ∷ nth_field fs 2 ∷ nth_field fs 3 ∷ [])) s.0

-- a line that is misshapen is read in no way, and refused for nothing else
move_shape_only : (n k : ℕ) (fs : List (List ℕ)) (f : Fault) → (Shaped (codes "move") 5 fs → ⊥) → MoveFault n k fs f → f ≡ Fault.Misshapen k
move_shape_only n k fs f never (MoveFault.shape s) = refl
move_shape_only n k fs f never (MoveFault.from s g) = absurd (never s)
move_shape_only n k fs f never (MoveFault.way s g h) = absurd (never s)
move_shape_only n k fs f never (MoveFault.name s g h i j) = absurd (never s)
move_shape_only n k fs f never (MoveFault.silent s g h i) = absurd (never s)
move_shape_only n k fs f never (MoveFault.to s g h i j) = absurd (never s)

-- the same for a first line
head_shape_only : (fs : List (List ℕ)) (f : Fault) → (Shaped (codes "table") 3 fs → ⊥) → HeadFault fs f → f ≡ Fault.Misshapen 1
head_shape_only fs f never (HeadFault.shape s) = refl
head_shape_only fs f never (HeadFault.states s g) = absurd (never s)
head_shape_only fs f never (HeadFault.start s n g h) = absurd (never s)

-- a move line that has the fault is refused with it
pub move_refused : (n k : ℕ) (fs : List (List ℕ)) (f : Fault) → 0 < n → n ≤ 256 → MoveFault n k fs f → move_line n k fs ≡ Err f
move_refused n k fs f z l (MoveFault.shape never) =
    refused_as (move_line n k fs) (Fault.Misshapen k)
    (λ x e. let p = move_ok n k fs x z l e in never (ap (λ (gs : List (List ℕ)). nth_field gs 1) p.1, ap length p.1))
    (λ g e. move_shape_only n k fs g never (move_err n k fs g z l e))
move_refused n k fs f z l (MoveFault.from s no_from) = shaped_move n k fs s ∙ rw (number_refused n k 2 (nth_field fs 2) z l no_from)
move_refused n k fs f z l (MoveFault.way s a no_one) = shaped_move n k fs s ∙ rw (number_read n k 2 (nth_field fs 2) l a, way_refused k (nth_field fs 3) no_one)
move_refused n k fs f z l (MoveFault.name s a b d no_name) =
    let w = way_read k (nth_field fs 3) b in
    shaped_move n k fs s ∙ rw (number_read n k 2 (nth_field fs 2) l a, w.2, name_refused k w.0 (nth_field fs 3) (nth_field fs 4) w.1 d no_name)
move_refused n k fs f z l (MoveFault.silent s a b some) =
    shaped_move n k fs s ∙ rw (number_read n k 2 (nth_field fs 2) l a, ap (way_at k) b, silent_refused k (nth_field fs 4) some)
move_refused n k fs f z l (MoveFault.to s a b c no_to) =
    let w = way_read k (nth_field fs 3) b in
    let d = label_read k w.0 (nth_field fs 3) (nth_field fs 4) w.1 c in
    shaped_move n k fs s ∙ rw (number_read n k 2 (nth_field fs 2) l a, w.2, d.1, number_refused n k 5 (nth_field fs 5) z l no_to)

-- a first line that has the fault is refused with it
pub head_refused : (fs : List (List ℕ)) (f : Fault) → HeadFault fs f → head_line 1 fs ≡ Err f
head_refused fs f (HeadFault.shape never) =
    refused_as (head_line 1 fs) (Fault.Misshapen 1)
    (λ u e. let p = head_ok 1 fs u e in never (ap (λ (gs : List (List ℕ)). nth_field gs 1) p.3, ap length p.3))
    (λ g e. head_shape_only fs g never (head_err fs g e))
head_refused fs f (HeadFault.states s never) = shaped_head fs s ∙ rw (states_refused 1 (nth_field fs 2) never)
head_refused fs f (HeadFault.start s n a never) = shaped_head fs s ∙ rw (states_read 1 n (nth_field fs 2) a, number_refused n 1 3 (nth_field fs 3) a.0 (omega arith) never)
