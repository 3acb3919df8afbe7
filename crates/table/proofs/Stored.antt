use Rattle.std.proofs.Common.{◌≡◌, ℕ, ◌+◌, ◌<◌, ◌≤◌, true, List, [], ◌∷◌, ◌++◌, length, take, drop, set, is_ok, Ok, Err, Result, sym, refl, ap, ◌∙◌, inl, inr, arith}
use Rattle.std.proofs.lemmas.List.{append_assoc, append-nil, take-append-drop, take_more_set, drop-set-lt, drop-drop, length-take-le, length-append, length-set}
use Rattle.std.proofs.lemmas.Bool.{cases_lt, lt-ltb}
use Rattle.table.specs.declared.fault.Fault.{Fault}
use Rattle.source.specs.declared.table.Move.{Move}
use Rattle.table.specs.declared.checked.Summary.{Summary}
use Rattle.table.specs.Table.{read_text, Listing, moves_of, summary_of}
use Rattle.table.proofs.Turns.{onto}
use Rattle.table.proofs.Results.{no_err}

-- a text without fault is not too long
pub sound_short : (text : List ℕ) → is_ok (read_text text) ≡ true → length text ≤ 40960
sound_short text h =
    elim (cases_lt 40960 (length text)) [
      | inl l ↦ let e : is_ok {T = Listing} {E = Fault} (Err Fault.TooLong) ≡ true = rw (lt-ltb 40960 (length text) l) at h in absurd (cc)
      | inr l ↦ l
    ]

-- what is stored and what is still to be read make the whole
abbrev pub Storing : List Move → List Move → List Move → ℕ → Result Listing Fault → Type 0
Storing all was ms many r = (is_ok r ≡ true) × (many ≤ length ms) × (drop many ms ≡ drop many was) × (take many ms ++ moves_of r ≡ all)

-- a move more to come stands first
onto_moves : (x : Move) (r : Result Listing Fault) → is_ok (onto x r) ≡ true → (is_ok r ≡ true) × (moves_of (onto x r) ≡ x ∷ moves_of r)
onto_moves x (Ok t) h = (refl, refl)
onto_moves x (Err f) h = absurd (cc)

-- all the moves have places, so the move has its place
pub store_room : (all was ms : List Move) (many : ℕ) (x : Move) (r : Result Listing Fault) → Storing all was ms many (onto x r) → length all ≤ length ms → many < length ms
store_room all was ms many x r had fits =
    let whole : take many ms ++ x ∷ moves_of r ≡ all = ap (λ (ys : List Move). take many ms ++ ys) (sym (onto_moves x r had.0).1) ∙ had.3 in
    let n = sym (length-append (take many ms) (x ∷ moves_of r)) ∙ ap length whole in
    let t = length-take-le many ms had.1 in
    omega arith

-- a move to come has its place, and storing it there goes on
module _ (all was ms : List Move) (many : ℕ) (x : Move) (r : Result Listing Fault) (had : Storing all was ms many (onto x r)) (room : many < length ms) where
  -- what is stored, the move and what comes after it are all
  whole : take many ms ++ x ∷ moves_of r ≡ all
  whole = ap (λ (ys : List Move). take many ms ++ ys) (sym (onto_moves x r had.0).1) ∙ had.3

  -- and with it stored the rest is to come
  pub store_step : Storing all was (set ms many x) (many + 1) r
  store_step =
      let n = length-set ms many x in
      let same : drop (many + 1) (set ms many x) ≡ drop (many + 1) was = drop-set-lt (many + 1) ms many x (omega arith) ∙ sym (drop-drop 1 many ms) ∙ ap (drop 1) had.2 ∙ drop-drop 1 many was in
      let now : take (many + 1) (set ms many x) ++ moves_of r ≡ all = ap (λ (ys : List Move). ys ++ moves_of r) (take_more_set ms many x room) ∙ append_assoc (take many ms) (x ∷ []) (moves_of r) ∙ whole in
      ((onto_moves x r had.0).0, omega arith, same, now)

-- where nothing is left, all is stored
pub stored_all : (all was ms : List Move) (many : ℕ) (r : Result Listing Fault) → Storing all was ms many r → moves_of r ≡ [] → ms ≡ all ++ drop (length all) was
stored_all all was ms many r h e =
    let a : take many ms ≡ all = sym (append-nil (take many ms)) ∙ ap (λ (ys : List Move). take many ms ++ ys) (sym e) ∙ h.3 in
    let n : many ≡ length all = sym (length-take-le many ms h.1) ∙ ap length a in
    sym (take-append-drop many ms) ∙ ap (λ (ys : List Move). ys ++ drop many ms) a ∙ ap (λ (ys : List Move). all ++ ys) (h.2 ∙ ap (λ j. drop j was) n)

-- where no place is left, nothing is left
pub none_left : (all was ms : List Move) (many : ℕ) (r : Result Listing Fault) → Storing all was ms many r → length all ≤ length ms → length ms ≤ many → moves_of r ≡ []
none_left all was ms many r h fits l =
    let n = sym (length-append (take many ms) (moves_of r)) ∙ ap length h.3 in
    let t = length-take-le many ms h.1 in
    length_zero (moves_of r) (omega arith)
  where
    length_zero : (xs : List Move) → length xs ≡ 0 → xs ≡ []
    length_zero [] z = refl
    length_zero (x ∷ xs) z = absurd (omega arith)

-- a summary is of a text without fault, and tells the number of its moves
pub summary_known : (r : Result Listing Fault) (h : Summary) → summary_of r ≡ Ok h → (is_ok r ≡ true) × (length (moves_of r) ≡ h.moves)
summary_known (Ok t) h e =
    let y : Summary = record { states = t.states; start = t.start; moves = length t.moves } in
    let i : y ≡ h = cc in
    (refl, ap (λ (u : Summary). u.moves) i)
summary_known (Err f) h e = no_err f h e
