use Rattle.std.proofs.Common.{◌≡◌, ℕ, ◌+◌, ◌<◌, Bool, true, false, cond, eqb, ltb, List, [], ◌∷◌, ◌++◌, length, take, drop, position, Some, None, Option, sym, refl, ap, ◌∙◌, arith}
use Rattle.std.specs.List.{position_or_len, onto_first}
use Rattle.std.proofs.lemmas.Bool.{ne_eqb, eq-eqb, ltb-true, ltb-false}
use Rattle.std.proofs.lemmas.Option.{cond_some, none-some}
use Rattle.std.proofs.lemmas.List.Sums.{fails_before_first}
use Rattle.std.proofs.lemmas.List.Elements.{All-from_get_or}
use Rattle.std.proofs.lemmas.List.Splits.{slice_split_first, slice_split_none}
use Rattle.table.specs.Text.{pieces}
use Rattle.table.specs.Faults.{Free}

-- a part with no byte b, and then b, is the first piece
pub pieces_past : (b : ℕ) (p q : List ℕ) → Free b p → pieces b (p ++ b ∷ q) ≡ p ∷ pieces b q
pieces_past b [] q h = rw (eq-eqb b b refl)
pieces_past b (x ∷ p) q h = rw (ne_eqb x b h.0, pieces_past b p q h.1)

-- a text with no byte b is its one piece
pub pieces_last : (b : ℕ) (p : List ℕ) → Free b p → pieces b p ≡ p ∷ []
pieces_last b [] h = refl
pieces_last b (x ∷ p) h = rw (ne_eqb x b h.0, pieces_last b p h.1)

-- the first piece ends where the byte b stands first
pub pieces_first : (b i : ℕ) (xs : List ℕ) → position (λ x. eqb x b) xs ≡ Some i → (i < length xs) × (pieces b xs ≡ take i xs ∷ pieces b (drop (i + 1) xs))
pieces_first b i xs h =
    let c = cond_some (ltb (position_or_len (λ x. eqb x b) xs) (length xs)) (position_or_len (λ x. eqb x b) xs) i h in
    let l = ltb-true _ _ c.0 in
    (omega (arith, c.1, l), slice_split_first (λ x. eqb x b) xs 0 l ∙ ap (λ n. take n xs ∷ pieces b (drop (n + 1) xs)) c.1)

-- a choice between some number and none that gives none
cond_none : (t : Bool) (n : ℕ) → cond t (Some n) None ≡ None → t ≡ false
cond_none true n h = absurd (none-some n (sym h))
cond_none false n h = refl

-- a choice between something and none that gives some number
pub cond_some_of : (t : Bool) (o : Option ℕ) (n : ℕ) → cond t o None ≡ Some n → (t ≡ true) × (o ≡ Some n)
cond_some_of true o n h = (refl, h)
cond_some_of false o n h = absurd (none-some n h)

-- with no byte b there is one piece
pub pieces_none : (b : ℕ) (xs : List ℕ) → position (λ x. eqb x b) xs ≡ None → pieces b xs ≡ xs ∷ []
pieces_none b xs h =
    let f = cond_none (ltb (position_or_len (λ x. eqb x b) xs) (length xs)) (position_or_len (λ x. eqb x b) xs) h in
    let l = ltb-false (position_or_len (λ x. eqb x b) xs) (length xs) f in
    slice_split_none (λ x. eqb x b) xs (All-from_get_or (λ x. eqb x b ≡ false) xs 0 (λ i m. fails_before_first (λ x. eqb x b) xs i 0 (omega arith)))

-- a byte more on the first piece leaves a first piece
onto_first_some : (x : ℕ) (ps : List (List ℕ)) → (p : List ℕ) × (qs : List (List ℕ)) × (onto_first x ps ≡ p ∷ qs)
onto_first_some x [] = (x ∷ [], [], refl)
onto_first_some x (p ∷ ps) = (x ∷ p, ps, refl)

-- the pieces of a text have a first one
pub pieces_some : (b : ℕ) (xs : List ℕ) → (p : List ℕ) × (ps : List (List ℕ)) × (pieces b xs ≡ p ∷ ps)
pieces_some b [] = ([], [], refl)
pieces_some b (x ∷ xs) =
    elim (eqb x b) as (λ t. (p : List ℕ) × (ps : List (List ℕ)) × (cond t ([] ∷ pieces b xs) (onto_first x (pieces b xs)) ≡ p ∷ ps)) [ true ↦ ([], pieces b xs, refl) | false ↦ onto_first_some x (pieces b xs) ]
