use Rattle.std.proofs.Common.{◌≡◌, ℕ, suc, ◌+◌, ◌-◌, ◌<◌, ◌≤◌, ltb, List, [], ◌∷◌, ◌++◌, length, Ok, Err, codes, decimal, Result, sym, refl, ap, ◌∙◌, subst, inl, inr, arith}
use Rattle.std.specs.List.{flat_map, AllByRecursion}
use Rattle.std.proofs.lemmas.List.{append_assoc, append-nil}
use Rattle.std.proofs.lemmas.Bool.{cases_Bool, ltb-false}
use Rattle.table.specs.declared.fault.Fault.{Fault}
use Rattle.source.specs.declared.table.Move.{Move}
use Rattle.table.specs.declared.head.Head.{Head}
use Rattle.table.specs.Text.{pieces}
use Rattle.table.specs.Table.{and_then, head_line, move_line, moves_from, listing_from, read_text, Listing, with_moves}
use Rattle.table.specs.Write.{parted, written_line, way_text, name_text, move_fields, head_fields, write, WellFormedMove, WellFormed, ReadsWhatIsWritten}
use Rattle.table.specs.Faults.{Free}
use Rattle.table.proofs.Cuts.{pieces_past, pieces_some}
use Rattle.table.proofs.Figures.{digits_of_decimal}
use Rattle.table.proofs.Parting.{parted_pieces, pieces_parted, free_parted, free_digits}
use Rattle.table.proofs.Turns.{read_short}
use Rattle.table.proofs.Results.{no_err, then_ok}
use Rattle.table.proofs.Fields.{move_ok, move_from, head_ok, head_from}

-- the lines of moves
abbrev pub rows : List Move → List ℕ
rows ms = flat_map (λ m. written_line (move_fields m)) ms

-- no byte 10 or comma in a field that is written
free_decimal : (b n : ℕ) → b < 48 → n < 256 → Free b (decimal n)
free_decimal b n h l = free_digits b (decimal n) h (digits_of_decimal n l)

-- the same of a way
free_way : (b l : ℕ) → b < 48 → (b ≡ 33 → ⊥) → (b ≡ 45 → ⊥) → Free b (way_text l)
free_way b l h x y =
    elim (cases_Bool (ltb l 32)) [
      | inl t ↦ rw t ((λ e. omega arith), tt)
      | inr f ↦ elim (cases_Bool (ltb l 64)) [ inl t ↦ rw (f, t) ((λ e. omega (arith, x (sym e))), tt) | inr g ↦ rw (f, g) ((λ e. omega (arith, y (sym e))), tt) ]
    ]

-- the same of a name
free_name : (b l : ℕ) → b < 48 → l ≤ 64 → Free b (name_text l)
free_name b l h n =
    elim (cases_Bool (ltb l 32)) [
      | inl t ↦ rw t (free_decimal b l h (omega arith))
      | inr f ↦ elim (cases_Bool (ltb l 64)) [ inl t ↦ rw (f, t) (free_decimal b (l - 32) h (omega arith)) | inr g ↦ rw (f, g) tt ]
    ]

-- the same of all fields of a move
free_move : (b n : ℕ) (x : Move) → b < 48 → (b ≡ 33 → ⊥) → (b ≡ 45 → ⊥) → n ≤ 256 → WellFormedMove n x → AllByRecursion (Free b) (move_fields x)
free_move b n x h y z l f = (
  ((λ e. omega arith), ((λ e. omega arith), ((λ e. omega arith), ((λ e. omega arith), tt)))),
  (free_decimal b x.from h (omega arith), (free_way b x.label h y z, (free_name b x.label h f.1, (free_decimal b x.to h (omega arith), tt)))),
)

-- the same of all fields of a first line
free_head : (b n s : ℕ) → b < 48 → n < 256 → s < n → AllByRecursion (Free b) (head_fields n s)
free_head b n s h l m = (
  ((λ e. omega arith), ((λ e. omega arith), ((λ e. omega arith), ((λ e. omega arith), ((λ e. omega arith), tt))))),
  (free_decimal b n h l, (free_decimal b s h (omega arith), tt)),
)

-- a written line in front of a text
pieces_line : (f : List ℕ) (fs : List (List ℕ)) (xs : List ℕ) → AllByRecursion (Free 10) (f ∷ fs) → pieces 10 (written_line (f ∷ fs) ++ xs) ≡ parted 44 (f ∷ fs) ∷ pieces 10 xs
pieces_line f fs xs h =
    ap (pieces 10) (append_assoc (parted 44 (f ∷ fs)) (10 ∷ []) xs) ∙
    pieces_past 10 (parted 44 (f ∷ fs)) xs (free_parted 10 44 (f ∷ fs) (λ e. omega arith) h)

-- a reading that goes on with a step that changes nothing, or with two
then_same : (r : Result (List Move) Fault) → r ≡ and_then r (λ xs. Ok ([] ++ xs))
then_same (Ok xs) = refl
then_same (Err f) = refl

-- a move in front of moves that are read
then_front : (x : Move) (ms : List Move) (r : Result (List Move) Fault) → and_then {B = List Move} (and_then {B = List Move} r (λ ys. Ok (ms ++ ys))) (λ ys. Ok (x ∷ ys)) ≡ and_then r (λ ys. Ok ((x ∷ ms) ++ ys))
then_front x ms (Ok ys) = refl
then_front x ms (Err f) = refl

-- a head before moves that are read
then_with : (h : Head) (ms : List Move) (r : Result (List Move) Fault) → and_then {B = Listing} (and_then {B = List Move} r (λ ys. Ok (ms ++ ys))) (λ ys. Ok (with_moves h ys)) ≡ and_then r (λ ys. Ok (with_moves h (ms ++ ys)))
then_with h ms (Ok ys) = refl
then_with h ms (Err f) = refl

-- a line that is read, in front of others
moves_cons : (n k : ℕ) (l xs : List ℕ) (x : Move) → move_line n k (pieces 44 l) ≡ Ok x → moves_from n k (l ∷ pieces 10 xs) ≡ and_then (moves_from n (k + 1) (pieces 10 xs)) (λ ys. Ok (x ∷ ys))
moves_cons n k l xs x h = let p = pieces_some 10 xs in rw (p.2, h)

-- the same for the first line
listing_cons : (l xs : List ℕ) (u : Head) → head_line 1 (pieces 44 l) ≡ Ok u → listing_from 1 (l ∷ pieces 10 xs) ≡ and_then (moves_from u.states 2 (pieces 10 xs)) (λ ys. Ok (with_moves u ys))
listing_cons l xs u h = let p = pieces_some 10 xs in rw (p.2, h)

-- moves that are written are read, and then what stands behind them
moves_past : (n k : ℕ) (ms : List Move) (behind : List ℕ) → n ≤ 256 → AllByRecursion (WellFormedMove n) ms → moves_from n k (pieces 10 (rows ms ++ behind)) ≡ and_then (moves_from n (k + length ms) (pieces 10 behind)) (λ ys. Ok (ms ++ ys))
moves_past n k [] behind l h =
    let e : k + 0 ≡ k = omega arith in
    ap (λ j. moves_from n j (pieces 10 behind)) (sym e) ∙ then_same (moves_from n (k + 0) (pieces 10 behind))
moves_past n k (x ∷ xs) behind l h =
    let t = free_move 10 n x (omega arith) (λ e. omega arith) (λ e. omega arith) l h.0 in
    let c = free_move 44 n x (omega arith) (λ e. omega arith) (λ e. omega arith) l h.0 in
    let fs : List (List ℕ) = decimal x.from ∷ way_text x.label ∷ name_text x.label ∷ decimal x.to ∷ [] in
    let m : move_line n k (pieces 44 (parted 44 (move_fields x))) ≡ Ok x = ap (move_line n k) (pieces_parted 44 (codes "move") fs c) ∙ move_from n k x l h.0 in
    let e : k + 1 + length xs ≡ k + suc (length xs) = omega arith in
    ap (λ (ys : List ℕ). moves_from n k (pieces 10 ys)) (append_assoc (written_line (move_fields x)) (rows xs) behind) ∙
    ap (moves_from n k) (pieces_line (codes "move") fs (rows xs ++ behind) t) ∙
    moves_cons n k (parted 44 (move_fields x)) (rows xs ++ behind) x m ∙
    ap (λ (r : Result (List Move) Fault). and_then {B = List Move} r (λ ys. Ok (x ∷ ys))) (moves_past n (k + 1) xs behind l h.1) ∙
    then_front x xs (moves_from n (k + 1 + length xs) (pieces 10 behind)) ∙
    ap (λ j. and_then (moves_from n j (pieces 10 behind)) (λ ys. Ok ((x ∷ xs) ++ ys))) e

-- a listing that is written is read, and then what stands behind it
pub listing_past : (t : Listing) (behind : List ℕ) → WellFormed t → listing_from 1 (pieces 10 (write t ++ behind)) ≡ and_then (moves_from t.states (2 + length t.moves) (pieces 10 behind)) (λ ys. Ok (with_moves (record { states = t.states; start = t.start }) (t.moves ++ ys)))
listing_past t behind f =
    let c = free_head 44 t.states t.start (omega arith) f.1 f.2 in
    let d = free_head 10 t.states t.start (omega arith) f.1 f.2 in
    let u : Head = record { states = t.states; start = t.start } in
    let fs : List (List ℕ) = decimal t.states ∷ decimal t.start ∷ [] in
    let m : head_line 1 (pieces 44 (parted 44 (head_fields t.states t.start))) ≡ Ok u = ap (head_line 1) (pieces_parted 44 (codes "table") fs c) ∙ head_from 1 t.states t.start f.0 f.1 f.2 in
    ap (λ (ys : List ℕ). listing_from 1 (pieces 10 ys)) (append_assoc (written_line (head_fields t.states t.start)) (rows t.moves) behind) ∙
    ap (listing_from 1) (pieces_line (codes "table") fs (rows t.moves ++ behind) d) ∙
    listing_cons (parted 44 (head_fields t.states t.start)) (rows t.moves ++ behind) u m ∙
    ap (λ (r : Result (List Move) Fault). and_then {B = Listing} r (λ ys. Ok (with_moves u ys))) (moves_past t.states 2 t.moves behind (omega arith) f.3) ∙
    then_with u t.moves (moves_from t.states (2 + length t.moves) (pieces 10 behind))

-- a listing that is written is read
top_from : (t : Listing) → WellFormed t → listing_from 1 (pieces 10 (write t)) ≡ Ok t
top_from t f =
    let u : Head = record { states = t.states; start = t.start } in
    ap (λ (ys : List ℕ). listing_from 1 (pieces 10 ys)) (sym (append-nil (write t))) ∙ listing_past t [] f ∙ ap (λ (ys : List Move). Ok (with_moves u ys)) (append-nil t.moves)

-- move lines that are read are the moves written
moves_ok : (n k : ℕ) (ps : List (List ℕ)) (ms : List Move) → 0 < n → n ≤ 256 → moves_from n k ps ≡ Ok ms → AllByRecursion (WellFormedMove n) ms × (parted 10 ps ≡ rows ms)
moves_ok n k [] ms z l h = no_err (Fault.Unended k) ms h
moves_ok n k ([] ∷ []) ms z l h = let e : [] ≡ ms = cc in subst (λ (ys : List Move). AllByRecursion (WellFormedMove n) ys × ([] ≡ rows ys)) e (tt, refl)
moves_ok n k ((b ∷ bs) ∷ []) ms z l h = no_err (Fault.Unended k) ms h
moves_ok n k (p ∷ q ∷ ps) ms z l h =
    let a = then_ok (move_line n k (pieces 44 p)) (λ x. and_then (moves_from n (k + 1) (q ∷ ps)) (λ xs. Ok (x ∷ xs))) ms h in
    let b = then_ok (moves_from n (k + 1) (q ∷ ps)) (λ xs. Ok (a.0 ∷ xs)) ms a.2 in
    let last : ◌≡◌ {A = Result (List Move) Fault} (Ok (a.0 ∷ b.0)) (Ok ms) = b.2 in
    let e : a.0 ∷ b.0 ≡ ms = cc in
    let r = moves_ok n (k + 1) (q ∷ ps) b.0 z l b.1 in
    let m = move_ok n k (pieces 44 p) a.0 z l a.1 in
    let one : p ≡ parted 44 (move_fields a.0) = sym (parted_pieces 44 p) ∙ ap (parted 44) m.1 in
    let text : p ++ 10 ∷ parted 10 (q ∷ ps) ≡ rows (a.0 ∷ b.0) =
    ap (λ (ys : List ℕ). p ++ 10 ∷ ys) r.1 ∙ ap (λ (ys : List ℕ). ys ++ 10 ∷ rows b.0) one ∙ sym (append_assoc (parted 44 (move_fields a.0)) (10 ∷ []) (rows b.0)) in
    subst (λ (ys : List Move). AllByRecursion (WellFormedMove n) ys × (p ++ 10 ∷ parted 10 (q ∷ ps) ≡ rows ys)) e ((m.0, r.0), text)

-- lines that are read are the listing written
top_ok : (k : ℕ) (ps : List (List ℕ)) (t : Listing) → listing_from k ps ≡ Ok t → WellFormed t × (parted 10 ps ≡ write t)
top_ok k [] t h = no_err (Fault.Unended k) t h
top_ok k (p ∷ []) t h = no_err (Fault.Unended k) t h
top_ok k (p ∷ q ∷ ps) t h =
    let a = then_ok (head_line k (pieces 44 p)) (λ u. and_then (moves_from u.states (k + 1) (q ∷ ps)) (λ ms. Ok (with_moves u ms))) t h in
    let b = then_ok (moves_from a.0.states (k + 1) (q ∷ ps)) (λ ms. Ok (with_moves a.0 ms)) t a.2 in
    let last : ◌≡◌ {A = Result Listing Fault} (Ok (with_moves a.0 b.0)) (Ok t) = b.2 in
    let e : with_moves a.0 b.0 ≡ t = cc in
    let m = head_ok k (pieces 44 p) a.0 a.1 in
    let r = moves_ok a.0.states (k + 1) (q ∷ ps) b.0 m.0 (omega arith) b.1 in
    let one : p ≡ parted 44 (head_fields a.0.states a.0.start) = sym (parted_pieces 44 p) ∙ ap (parted 44) m.3 in
    let text : p ++ 10 ∷ parted 10 (q ∷ ps) ≡ write (with_moves a.0 b.0) =
    ap (λ (ys : List ℕ). p ++ 10 ∷ ys) r.1 ∙ ap (λ (ys : List ℕ). ys ++ 10 ∷ rows b.0) one ∙ sym (append_assoc (parted 44 (head_fields a.0.states a.0.start)) (10 ∷ []) (rows b.0)) in
    subst (λ (u : Listing). WellFormed u × (p ++ 10 ∷ parted 10 (q ∷ ps) ≡ write u)) e ((m.0, m.1, m.2, r.0), text)

-- both ways: a text is read as a listing just if it is the listing written
pub reads_what_is_written : ReadsWhatIsWritten
reads_what_is_written text t = (there, back)
  where
    there : read_text text ≡ Ok t → WellFormed t × (text ≡ write t) × (length text ≤ 40960)
    there h =
        elim (cases_Bool (ltb 40960 (length text))) [
          | inl b ↦ no_err Fault.TooLong t (rw b at h)
          | inr b ↦
              let p = top_ok 1 (pieces 10 text) t (rw b at h) in
              (p.0, sym (parted_pieces 10 text) ∙ p.1, ltb-false 40960 (length text) b)
        ]

    back : WellFormed t × (text ≡ write t) × (length text ≤ 40960) → read_text text ≡ Ok t
    back p = read_short text p.2 ∙ ap (λ (ys : List ℕ). listing_from 1 (pieces 10 ys)) p.1 ∙ top_from t p.0
