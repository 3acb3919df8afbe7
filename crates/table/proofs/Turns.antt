use Rattle.std.proofs.Common.{◌≡◌, ℕ, suc, ◌+◌, ◌-◌, ◌<◌, ◌≤◌, eqb, false, position, List, [], ◌∷◌, length, take, drop, is_ok, true, Some, None, Ok, Err, Option, Result, sym, refl, ap, ◌∙◌, subst, arith}
use Rattle.std.proofs.lemmas.Bool.{le-ltb}
use Rattle.std.proofs.lemmas.List.{take_all, length-drop, drop-drop}
use Rattle.table.specs.declared.fault.Fault.{Fault}
use Rattle.source.specs.declared.table.Move.{Move}
use Rattle.table.specs.declared.checked.Summary.{Summary}
use Rattle.table.specs.declared.head.Head.{Head}
use Rattle.table.specs.declared.line.Stage.{Stage}
use Rattle.table.specs.declared.line.Stage.TheVariants.{BeforeHead, AfterHead}
use Rattle.table.specs.declared.line.Line.{Line}
use Rattle.table.specs.declared.line.Line.TheVariants.{First, Step}
use Rattle.table.specs.Text.{pieces}
use Rattle.table.specs.Table.{and_then, line_says, head_line, move_line, moves_from, listing_from, read_text, Listing, with_moves, moves_of, summary_of}
use Rattle.table.specs.declared.reader.Reader.{Reader}
use Rattle.table.specs.Lines.{left, first_of, next_line, move_in, behind_first, Behind, Onward}
use Rattle.table.proofs.Cuts.{pieces_some, pieces_first, pieces_none}

-- what is still to be read, before the first line or after it
abbrev pub rest : Stage → ℕ → List (List ℕ) → Result Listing Fault
rest BeforeHead k ls = listing_from k ls
rest (AfterHead h) k ls = and_then (moves_from h.states k ls) (λ ms. Ok (with_moves h ms))

-- a move more in front
abbrev pub onto : Move → Result Listing Fault → Result Listing Fault
onto m (Ok t) = Ok (record { states = t.states; start = t.start; moves = m ∷ t.moves })
onto m (Err f) = Err f

-- the summary where c moves stand before what is still to be read
abbrev pub counted : ℕ → Result Listing Fault → Result Summary Fault
counted c (Ok t) = Ok (record { states = t.states; start = t.start; moves = c + length t.moves })
counted c (Err f) = Err f

-- with no moves before it is the summary
pub counted_none : (r : Result Listing Fault) → counted 0 r ≡ summary_of r
counted_none (Ok t) = let e : 0 + length t.moves ≡ length t.moves = omega arith in rw e
counted_none (Err f) = refl

-- a move to come or a move before makes no difference
pub counted_onto : (c : ℕ) (m : Move) (r : Result Listing Fault) → counted c (onto m r) ≡ counted (c + 1) r
counted_onto c m (Ok t) = let e : c + suc (length t.moves) ≡ c + 1 + length t.moves = omega arith in rw e
counted_onto c m (Err f) = refl

-- a text that is not too long is read line by line
pub read_short : (text : List ℕ) → length text ≤ 40960 → read_text text ≡ listing_from 1 (pieces 10 text)
read_short text h = rw (le-ltb 40960 (length text) h)

-- what a reader has still to read
abbrev pub to_come : Reader → Result Listing Fault
to_come r = rest r.stage r.line (left r)

-- at the start that is the whole text
pub all_to_come : (r : Reader) (t : List ℕ) → r.text.now ≡ t → r.at ≡ 0 → r.line ≡ 1 → r.stage ≡ BeforeHead → length t ≤ 40960 → to_come r ≡ read_text t
all_to_come r t et ea ek es h = rw (et, ea, ek, es) (sym (read_short t h))

-- a move read in front of moves stands in front of them
onto_moves : (h : Head) (m : Move) (r : Result (List Move) Fault) → and_then {B = Listing} (and_then {B = List Move} r (λ xs. Ok (m ∷ xs))) (λ ms. Ok (with_moves h ms)) ≡ onto m (and_then {B = Listing} r (λ ms. Ok (with_moves h ms)))
onto_moves h m (Ok ms) = refl
onto_moves h m (Err f) = refl

-- all that is left of a text, as a slice
all_left : (at : ℕ) (t : List ℕ) → take (length t - at) (drop at t) ≡ drop at t
all_left at t = take_all (length t - at) (drop at t) (omega (arith, length-drop at t))

-- a line that ends is handed out as it reads, and the others are left
pub line_ends : (s : Stage) (k at end : ℕ) (t : List ℕ) → position (λ b. eqb b 10) (take (length t - at) (drop at t)) ≡ Some end → (first_of s k (pieces 10 (drop at t)) ≡ Some (line_says s k (pieces 44 (take end (take (length t - at) (drop at t)))))) × (pieces 10 (drop (at + (end + 1)) t) ≡ behind_first (pieces 10 (drop at t)))
line_ends s k at end t h =
    let e = all_left at t in
    let q = (pieces_first 10 end (drop at t) (rw e at h)).1 in
    let p = pieces_some 10 (drop (end + 1) (drop at t)) in
    (rw (e, q, p.2), sym (ap behind_first q ∙ ap (pieces 10) (drop-drop (end + 1) at t)))

-- one that does not is a fault
pub line_open : (s : Stage) (k at : ℕ) (t : List ℕ) → position (λ b. eqb b 10) (take (length t - at) (drop at t)) ≡ None → eqb (length (take (length t - at) (drop at t))) 0 ≡ false → first_of s k (pieces 10 (drop at t)) ≡ Some (Err (Fault.Unended k))
line_open s k at t h some = let e = all_left at t in rw (pieces_none 10 (drop at t) (rw e at h)) (open_line s k (drop at t) (rw e at some))
  where
    open_line : (s : Stage) (k : ℕ) (l : List ℕ) → eqb (length l) 0 ≡ false → first_of s k (l ∷ []) ≡ Some (Err (Fault.Unended k))
    open_line s k [] n = absurd (grind arith)
    open_line s k (x ∷ l) n = refl

-- what is known of the lines ls, of which r is to be read, where o is handed out of them
abbrev Handed : Stage → ℕ → List (List ℕ) → Result Listing Fault → Option (Result Line Fault) → Type 0
Handed s k ls r None = (l : List ℕ) (more : List (List ℕ)) → ls ≡ l ∷ more → ls ≡ [] ∷ []
Handed s k ls r (Some (Err f)) = r ≡ Err f
Handed s k ls r (Some (Ok (First h))) = (s ≡ BeforeHead) × (r ≡ rest (AfterHead h) (k + 1) (behind_first ls))
Handed s k ls r (Some (Ok (Step m))) = ((h : Head) × (s ≡ AfterHead h)) × (r ≡ onto m (rest s (k + 1) (behind_first ls)))

handed : (s : Stage) (k : ℕ) (ls : List (List ℕ)) → Handed s k ls (rest s k ls) (first_of s k ls)
handed s k [] = λ l more e. absurd (cc)
handed s k ([] ∷ []) = λ l more e. refl
handed BeforeHead k ((x ∷ l) ∷ []) = refl
handed (AfterHead u) k ((x ∷ l) ∷ []) = refl
handed BeforeHead k (l ∷ m ∷ ls) =
    elim (head_line k (pieces 44 l)) as (λ r. Handed BeforeHead k (l ∷ m ∷ ls) (and_then r (λ h. and_then (moves_from h.states (k + 1) (m ∷ ls)) (λ ms. Ok (with_moves h ms)))) (Some (and_then r (λ h. Ok (First h))))) [ Ok h ↦ (refl, refl) | Err f ↦ refl ]
handed (AfterHead u) k (l ∷ m ∷ ls) =
    elim (move_line u.states k (pieces 44 l)) as (λ r. Handed (AfterHead u) k (l ∷ m ∷ ls) (and_then (and_then r (λ x. and_then (moves_from u.states (k + 1) (m ∷ ls)) (λ xs. Ok (x ∷ xs)))) (λ ms. Ok (with_moves u ms))) (Some (and_then r (λ x. Ok (Step x))))) [
      | Ok x ↦ ((u, refl), onto_moves u x (moves_from u.states (k + 1) (m ∷ ls)))
      | Err f ↦ refl
    ]

-- the same of what a reader hands out
abbrev Told : Reader → Option (Result Line Fault) → Type 0
Told r o = Handed r.stage r.line (left r) (to_come r) o

told : (r : Reader) (o : Option (Result Line Fault)) → o ≡ next_line r → Told r o
told r o v = subst (Told r) (sym v) (handed r.stage r.line (left r))

-- nothing is handed out: nothing is left
told_none : (r : Reader) → Told r None → left r ≡ [] ∷ []
told_none r t = let p = pieces_some 10 (drop r.at r.text.now) in t p.0 p.1 p.2

-- a first line is handed out: the rest is read after it
after_first : (r q : Reader) (h : Head) → Told r (Some (Ok (First h))) → Behind (First h) r q → to_come r ≡ to_come q
after_first r q h t b = t.1 ∙ rw (b.stage, b.line, b.left)

-- a move is handed out: it stands in front of the rest
after_step : (r q : Reader) (m : Move) → Told r (Some (Ok (Step m))) → Behind (Step m) r q → to_come r ≡ onto m (to_come q)
after_step r q m t b = t.1 ∙ rw (b.stage, b.line, b.left)

-- a fault is handed out: the rest is refused with it
pub on_fault : (r : Reader) (o : Result Line Fault) (f : Fault) → o ≡ Err f → Some o ≡ next_line r → to_come r ≡ Err f
on_fault r o f e v = told r (Some (Err f)) (ap Some (sym e) ∙ v)

-- the end of the text
pub on_end : (r q : Reader) → None ≡ next_line r → Onward None r q → to_come r ≡ rest q.stage q.line ([] ∷ [])
on_end r q v on = ap (rest r.stage r.line) (told_none r (told r None v)) ∙ rw (on.stage, on.line)

-- the line in which a reader stands, by what it has read
abbrev pub Standing : Stage → ℕ → Type 0
Standing BeforeHead k = k ≡ 1
Standing (AfterHead h) k = 2 ≤ k

-- past a line, there are as many moves behind as lines past the first
pub counts_on : (s : Result Summary Fault) (r q : Reader) (o : Result Line Fault) (x : Line) → o ≡ Ok x → Some o ≡ next_line r → Onward (Some o) r q → Standing r.stage r.line → counted (r.line - 2) (to_come r) ≡ s → (q.text.now ≡ r.text.now) × (r.at < q.at) × Standing q.stage q.line × (counted (q.line - 2) (to_come q) ≡ s)
counts_on s r q o x e v on st c = go x (told r (Some (Ok x)) (ap Some (sym e) ∙ v)) (subst (λ (y : Result Line Fault). Onward (Some y) r q) e on)
  where
    go : (x : Line) → Told r (Some (Ok x)) → Behind x r q → (q.text.now ≡ r.text.now) × (r.at < q.at) × Standing q.stage q.line × (counted (q.line - 2) (to_come q) ≡ s)
    go (First h) t b =
        let k : r.line ≡ 1 = rw t.0 at st in
        let n : q.line - 2 ≡ r.line - 2 = omega (arith, b.line) in
        let l : 2 ≤ q.line = omega (arith, b.line) in
        (b.text, b.further, rw b.stage l, rw n (ap (counted (r.line - 2)) (sym (after_first r q h t b)) ∙ c))
    go (Step m) t b =
        let k : 2 ≤ r.line = rw t.0.1 at st in
        let n : q.line - 2 ≡ r.line - 2 + 1 = omega (arith, b.line) in
        let l : 2 ≤ q.line = omega (arith, b.line) in
        (b.text, b.further, rw (b.stage, t.0.1) l, rw n (sym (ap (counted (r.line - 2)) (after_step r q m t b) ∙ counted_onto (r.line - 2) m (to_come q)) ∙ c))

-- so at the end of the text, where the first line stands behind
pub stands : (r q : Reader) (h : Head) → Standing r.stage r.line → Onward None r q → q.stage ≡ AfterHead h → 2 ≤ q.line
stands r q h st on e =
    let k : Standing (AfterHead h) r.line = rw (sym on.stage ∙ e) at st in
    omega (arith, on.line)

-- what is handed out where all is to be read without fault is the first line
pub first_handed : (r q : Reader) (o : Option (Result Line Fault)) → is_ok (to_come r) ≡ true → r.stage ≡ BeforeHead → o ≡ next_line r → Onward o r q → (h : Head) × (q.stage ≡ AfterHead h) × (to_come r ≡ to_come q)
first_handed r q o k s e = go o (told r o e)
  where
    go : (o : Option (Result Line Fault)) → Told r o → Onward o r q → (h : Head) × (q.stage ≡ AfterHead h) × (to_come r ≡ to_come q)
    go None t on = let n : is_ok (rest BeforeHead r.line ([] ∷ [])) ≡ true = rw (s, told_none r t) at k in absurd (cc)
    go (Some (Err f)) t on = let n : is_ok {T = Listing} {E = Fault} (Err f) ≡ true = rw t at k in absurd (cc)
    go (Some (Ok (First h))) t on = (h, on.stage, after_first r q h t on)
    go (Some (Ok (Step m))) t on = let n : BeforeHead ≡ AfterHead t.0.0 = sym s ∙ t.0.1 in absurd (cc)

-- the move in a line
pub move_handed : (r q : Reader) (m : Move) → Some m ≡ move_in (next_line r) → Onward (next_line r) r q → Behind (Step m) r q × (to_come r ≡ onto m (to_come q))
move_handed r q m = go (next_line r) (told r (next_line r) refl)
  where
    go : (o : Option (Result Line Fault)) → Told r o → Some m ≡ move_in o → Onward o r q → Behind (Step m) r q × (to_come r ≡ onto m (to_come q))
    go None t e on = absurd (cc)
    go (Some (Err f)) t e on = absurd (cc)
    go (Some (Ok (First h))) t e on = absurd (cc)
    go (Some (Ok (Step n))) t e on = let i : n ≡ m = cc in subst (λ (x : Move). Behind (Step x) r q × (to_come r ≡ onto x (to_come q))) i (on, after_step r q n t on)

-- where there is none after the first line, none is to come without fault
pub none_handed : (r : Reader) (h : Head) → r.stage ≡ AfterHead h → is_ok (to_come r) ≡ true → None ≡ move_in (next_line r) → moves_of (to_come r) ≡ []
none_handed r h s k = go (next_line r) (told r (next_line r) refl)
  where
    go : (o : Option (Result Line Fault)) → Told r o → None ≡ move_in o → moves_of (to_come r) ≡ []
    go None t e = rw (s, told_none r t)
    go (Some (Err f)) t e = rw t
    go (Some (Ok (First u))) t e = let n : AfterHead h ≡ BeforeHead = sym s ∙ t.0 in absurd (cc)
    go (Some (Ok (Step m))) t e = absurd (cc)
