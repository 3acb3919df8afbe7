use Rattle.std.proofs.Common.{◌≡◌, ℕ, ◌+◌, ◌-◌, ◌<◌, ◌≤◌, cond, Bool, true, eqb, List, [], ◌∷◌, Some, Ok, Err, codes, decimal, Result, sym, ap, ◌∙◌, subst, inl, inr, arith}
use Rattle.std.specs.Str.{bytes_eq}
use Rattle.std.proofs.lemmas.Bool.{cases_lt, ne_eqb}
use Rattle.std.proofs.lemmas.Bool.Decides.{nat_tests}
use Rattle.std.proofs.lemmas.Slice.Eq.{bytes_eq-Decides}
use Rattle.table.specs.declared.fault.Fault.{Fault}
use Rattle.source.specs.declared.table.Move.{Move}
use Rattle.table.specs.declared.head.Head.{Head}
use Rattle.table.specs.declared.field.Way.{Way}
use Rattle.table.specs.declared.field.Way.TheVariants.{Receive, Send, Silent}
use Rattle.table.specs.declared.line.Kind.{Kind}
use Rattle.table.specs.Text.{figure_below}
use Rattle.table.specs.Table.{and_then, number_at, states_at, way_of, way_in, way_at, label_at, move_of, head_of, kind_of, if_table, if_move, head_line, move_line}
use Rattle.table.specs.Write.{way_text, name_text, move_fields, head_fields, WellFormedMove}
use Rattle.table.proofs.Figures.{figure_some, figure_from}
use Rattle.table.proofs.Results.{no_err, then_ok, ok_or_ok}

-- a number that is read lies below the limit, and its field is its decimal
pub number_ok : (limit k f n : ℕ) (s : List ℕ) → 0 < limit → limit ≤ 256 → number_at limit k f s ≡ Ok n → (n < limit) × (s ≡ decimal n)
number_ok limit k f n s z l h = figure_some limit n s z l (ok_or_ok (figure_below limit s) (Fault.Figure k f) n h)

-- the decimal of a number below the limit is read
pub number_from : (limit k f n : ℕ) → limit ≤ 256 → n < limit → number_at limit k f (decimal n) ≡ Ok n
number_from limit k f n l h = rw (figure_from limit n l h)

-- the number of states that is read is from 1 to 255, and its field is its decimal
pub states_ok : (k n : ℕ) (s : List ℕ) → states_at k 2 s ≡ Ok n → (0 < n) × (n < 256) × (s ≡ decimal n)
states_ok k n s h =
    let p = then_ok (number_at 256 k 2 s) (λ m. cond (eqb m 0) (Err (Fault.Figure k 2)) (Ok m)) n h in
    let q = number_ok 256 k 2 p.0 s (omega arith) (omega arith) p.1 in
    let r = p.2 in
    (grind (arith, nat_tests), grind (arith, nat_tests), grind (arith, nat_tests))

-- the decimal of such a number is read
pub states_from : (k n : ℕ) → 0 < n → n < 256 → states_at k 2 (decimal n) ≡ Ok n
states_from k n z l = rw (figure_from 256 n (omega arith) l, ne_eqb n 0 (omega arith))

-- the byte of each way
abbrev pub way_bytes : Way → List ℕ
way_bytes Receive = codes "?"
way_bytes Send = codes "!"
way_bytes Silent = codes "-"

-- a byte that is read as a way is that of the way
way_of_ok : (b : ℕ) (w : Way) → way_of b ≡ Some w → b ∷ [] ≡ way_bytes w
way_of_ok b w h = grind (arith, nat_tests)

-- a field that is read as a way is its byte
pub way_in_ok : (s : List ℕ) (w : Way) → way_in s ≡ Some w → s ≡ way_bytes w
way_in_ok [] w h = absurd (cc)
way_in_ok (b ∷ []) w h = way_of_ok b w h
way_in_ok (b ∷ c ∷ cs) w h = absurd (cc)

-- the two texts of a label, in each of its ranges
text_receive : (l : ℕ) → l < 32 → (way_text l ≡ codes "?") × (name_text l ≡ decimal l)
text_receive l h = (grind (arith, nat_tests), grind (arith, nat_tests))

-- the texts of a label of sending
text_send : (n : ℕ) → n < 32 → (way_text (n + 32) ≡ codes "!") × (name_text (n + 32) ≡ decimal n)
text_send n h = (grind (arith, nat_tests), grind (arith, nat_tests))

-- a label that is read has the texts that were read
pub label_ok : (k l : ℕ) (w : Way) (s : List ℕ) → label_at k 4 w s ≡ Ok l → (l ≤ 64) × (way_text l ≡ way_bytes w) × (name_text l ≡ s)
label_ok k l Receive s h =
    let p = number_ok 32 k 4 l s (omega arith) (omega arith) h in
    let q = text_receive l p.0 in
    (omega arith, q.0, q.1 ∙ sym p.1)
label_ok k l Send s h =
    let p = then_ok (number_at 32 k 4 s) (λ n. Ok (n + 32)) l h in
    let r = p.2 in
    let i : p.0 + 32 ≡ l = cc in
    let q = number_ok 32 k 4 p.0 s (omega arith) (omega arith) p.1 in
    let t = text_send p.0 q.0 in
    (omega arith, ap way_text (sym i) ∙ t.0, ap name_text (sym i) ∙ t.1 ∙ sym q.1)
label_ok k l Silent [] h = let i : 64 ≡ l = cc in (omega arith, ap way_text (sym i), ap name_text (sym i))
label_ok k l Silent (x ∷ s) h = no_err (Fault.SilentName k) l h

-- the texts of a label are read as it
pub label_from : (k l : ℕ) → l ≤ 64 → (w : Way) × (way_in (way_text l) ≡ Some w) × (label_at k 4 w (name_text l) ≡ Ok l)
label_from k l h =
    elim (cases_lt l 32) [
      | inl a ↦ let t = text_receive l a in (Receive, ap way_in t.0, ap (label_at k 4 Receive) t.1 ∙ number_from 32 k 4 l (omega arith) a)
      | inr a ↦ elim (cases_lt l 64) [
        | inl b ↦
            let e : l - 32 + 32 ≡ l = omega arith in
            let c : l - 32 < 32 = omega arith in
            let t = text_send (l - 32) c in (
              Send,
              ap (λ n. way_in (way_text n)) (sym e) ∙ ap way_in t.0,
              ap (λ n. label_at k 4 Send (name_text n)) (sym e) ∙ ap (label_at k 4 Send) t.1 ∙ ap (λ r. and_then r (λ n. Ok (n + 32))) (number_from 32 k 4 (l - 32) (omega arith) c) ∙ ap Ok e,
            )
        | inr b ↦ let e : 64 ≡ l = omega arith in (Silent, ap (λ n. way_in (way_text n)) (sym e), ap (λ n. label_at k 4 Silent (name_text n)) (sym e) ∙ ap Ok e)
      ]
    ]

-- a line of the move kind begins with its word
pub kind_move : (w : List ℕ) → kind_of w ≡ Kind.Move → w ≡ codes "move"
kind_move w h = (bytes_eq-Decides w (codes "move")).0 (by_word (bytes_eq w (codes "table")) (bytes_eq w (codes "move")) h)
  where
    by_word : (s t : Bool) → cond s Kind.Table (cond t Kind.Move Kind.Other) ≡ Kind.Move → t ≡ true
    by_word s t h = grind arith

-- a line of the table kind begins with its word
pub kind_table : (w : List ℕ) → kind_of w ≡ Kind.Table → w ≡ codes "table"
kind_table w h = (bytes_eq-Decides w (codes "table")).0 (by_word (bytes_eq w (codes "table")) (bytes_eq w (codes "move")) h)
  where
    by_word : (s t : Bool) → cond s Kind.Table (cond t Kind.Move Kind.Other) ≡ Kind.Table → s ≡ true
    by_word s t h = grind arith

-- what is read only of a move line was read of one
if_move_ok : {A : Type 0} (w : Kind) (r : Result A Fault) (f : Fault) (a : A) → if_move w r (Err f) ≡ Ok a → (w ≡ Kind.Move) × (r ≡ Ok a)
if_move_ok w r f a h = grind arith

-- what is read only of a table line was read of one
if_table_ok : {A : Type 0} (w : Kind) (r : Result A Fault) (f : Fault) (a : A) → if_table w r (Err f) ≡ Ok a → (w ≡ Kind.Table) × (r ≡ Ok a)
if_table_ok w r f a h = grind arith

-- lists of three, and of five with the same first, are equal by their elements
same_three : {X : Type 0} {a a' b b' c c' : X} → a ≡ a' → b ≡ b' → c ≡ c' → a ∷ b ∷ c ∷ [] ≡ a' ∷ b' ∷ c' ∷ []
same_three p q r = cc

-- the same for five, of which the first are one
same_five : {X : Type 0} {w a a' b b' c c' d d' : X} → a ≡ a' → b ≡ b' → c ≡ c' → d ≡ d' → w ∷ a ∷ b ∷ c ∷ d ∷ [] ≡ w ∷ a' ∷ b' ∷ c' ∷ d' ∷ []
same_five p q r s = cc

-- the fields of a move line, one after another
abbrev pub after_label : ℕ → ℕ → List ℕ → ℕ → ℕ → Result Move Fault
after_label n k to p l = and_then (number_at n k 5 to) (λ q. Ok (record { from = p; label = l; to = q }))

-- the same from the name on
abbrev pub after_way : ℕ → ℕ → List ℕ → List ℕ → ℕ → Way → Result Move Fault
after_way n k name to p w = and_then (label_at k 4 w name) (λ l. after_label n k to p l)

-- the same from the way on
abbrev pub after_from : ℕ → ℕ → List ℕ → List ℕ → List ℕ → ℕ → Result Move Fault
after_from n k way name to p = and_then (way_at k way) (λ w. after_way n k name to p w)

-- fields that are read as a move are those of the move written
move_of_ok : (n k : ℕ) (gs : List (List ℕ)) (x : Move) → 0 < n → n ≤ 256 → move_of n k gs ≡ Ok x → WellFormedMove n x × (codes "move" ∷ gs ≡ move_fields x)
move_of_ok n k [] x z l h = no_err (Fault.Misshapen k) x h
move_of_ok n k (a ∷ []) x z l h = no_err (Fault.Misshapen k) x h
move_of_ok n k (a ∷ b ∷ []) x z l h = no_err (Fault.Misshapen k) x h
move_of_ok n k (a ∷ b ∷ c ∷ []) x z l h = no_err (Fault.Misshapen k) x h
move_of_ok n k (from ∷ way ∷ name ∷ to ∷ []) x z l h =
    let p = then_ok (number_at n k 2 from) (λ p. after_from n k way name to p) x h in
    let w = then_ok (way_at k way) (λ w. after_way n k name to p.0 w) x p.2 in
    let b = then_ok (label_at k 4 w.0 name) (λ l. after_label n k to p.0 l) x w.2 in
    let q = then_ok (number_at n k 5 to) (λ q. Ok (record { from = p.0; label = b.0; to = q })) x b.2 in
    let y : Move = record { from = p.0; label = b.0; to = q.0 } in
    let last : ◌≡◌ {A = Result Move Fault} (Ok y) (Ok x) = q.2 in
    let e : y ≡ x = cc in
    let pn = number_ok n k 2 p.0 from z l p.1 in
    let ws = way_in_ok way w.0 (ok_or_ok (way_in way) (Fault.Way k) w.0 w.1) in
    let bs = label_ok k b.0 w.0 name b.1 in
    let qn = number_ok n k 5 q.0 to z l q.1 in
    let e1 : from ≡ decimal p.0 = pn.1 in
    let e2 : way ≡ way_text b.0 = ws ∙ sym bs.1 in
    let e3 : name ≡ name_text b.0 = sym bs.2 in
    let e4 : to ≡ decimal q.0 = qn.1 in
    let fs : codes "move" ∷ from ∷ way ∷ name ∷ to ∷ [] ≡ move_fields y = same_five e1 e2 e3 e4 in
    subst (λ (m : Move). WellFormedMove n m × (codes "move" ∷ from ∷ way ∷ name ∷ to ∷ [] ≡ move_fields m)) e ((pn.0, bs.0, qn.0), fs)
move_of_ok n k (a ∷ b ∷ c ∷ d ∷ e ∷ es) x z l h = no_err (Fault.Misshapen k) x h

-- a line that is read as a move is the move written
pub move_ok : (n k : ℕ) (fs : List (List ℕ)) (x : Move) → 0 < n → n ≤ 256 → move_line n k fs ≡ Ok x → WellFormedMove n x × (fs ≡ move_fields x)
move_ok n k [] x z l h = no_err (Fault.Misshapen k) x h
move_ok n k (w ∷ gs) x z l h =
    let p = if_move_ok (kind_of w) (move_of n k gs) (Fault.Misshapen k) x h in
    let q = move_of_ok n k gs x z l p.1 in
    (q.0, ap (λ (v : List ℕ). v ∷ gs) (kind_move w p.0) ∙ q.1)

-- a move that is written is read
pub move_from : (n k : ℕ) (x : Move) → n ≤ 256 → WellFormedMove n x → move_line n k (move_fields x) ≡ Ok x
move_from n k x l f =
    let b = label_from k x.label f.1 in
    rw (figure_from n x.from l f.0, b.1, b.2, figure_from n x.to l f.2)

-- a line that is read as a first line is that line written
pub head_ok : (k : ℕ) (fs : List (List ℕ)) (t : Head) → head_line k fs ≡ Ok t → (0 < t.states) × (t.states < 256) × (t.start < t.states) × (fs ≡ head_fields t.states t.start)
head_ok k [] t h = no_err (Fault.Misshapen k) t h
head_ok k (w ∷ []) t h = no_err (Fault.Misshapen k) t (if_table_ok (kind_of w) (head_of k []) (Fault.Misshapen k) t h).1
head_ok k (w ∷ a ∷ []) t h = no_err (Fault.Misshapen k) t (if_table_ok (kind_of w) (head_of k (a ∷ [])) (Fault.Misshapen k) t h).1
head_ok k (w ∷ a ∷ b ∷ []) t h =
    let o = if_table_ok (kind_of w) (head_of k (a ∷ b ∷ [])) (Fault.Misshapen k) t h in
    let p = then_ok (states_at k 2 a) (λ n. and_then (number_at n k 3 b) (λ s. Ok (record { states = n; start = s }))) t o.1 in
    let ps = states_ok k p.0 a p.1 in
    let q = then_ok (number_at p.0 k 3 b) (λ s. Ok (record { states = p.0; start = s })) t p.2 in
    let qs = number_ok p.0 k 3 q.0 b ps.0 (omega arith) q.1 in
    let y : Head = record { states = p.0; start = q.0 } in
    let last : ◌≡◌ {A = Result Head Fault} (Ok y) (Ok t) = q.2 in
    let e : y ≡ t = cc in
    let e0 : w ≡ codes "table" = kind_table w o.0 in
    let e1 : a ≡ decimal p.0 = ps.2 in
    let e2 : b ≡ decimal q.0 = qs.1 in
    let fs : w ∷ a ∷ b ∷ [] ≡ head_fields y.states y.start = same_three e0 e1 e2 in
    subst (λ (u : Head). (0 < u.states) × (u.states < 256) × (u.start < u.states) × (w ∷ a ∷ b ∷ [] ≡ head_fields u.states u.start)) e (ps.0, ps.1, qs.0, fs)
head_ok k (w ∷ a ∷ b ∷ c ∷ cs) t h = no_err (Fault.Misshapen k) t (if_table_ok (kind_of w) (head_of k (a ∷ b ∷ c ∷ cs)) (Fault.Misshapen k) t h).1

-- a first line that is written is read
pub head_from : (k n s : ℕ) → 0 < n → n < 256 → s < n → head_line k (head_fields n s) ≡ Ok (record { states = n; start = s })
head_from k n s z l h = rw (figure_from 256 n (omega arith) l, ne_eqb n 0 (omega arith), figure_from n s (omega arith) h)
