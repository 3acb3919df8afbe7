use Rattle.std.proofs.Common.{◌≡◌, ℕ, ◌<◌, true, List, [], ◌∷◌, ap, ◌∙◌, arith}
use Rattle.std.specs.List.{AllByRecursion}
use Rattle.std.specs.Char.{is_ascii_digit}
use Rattle.std.specs.Str.{all_ascii_digits}
use Rattle.std.proofs.ByRecursion.{All-append}
use Rattle.std.proofs.lemmas.Bool.{and_parts, leb-true}
use Rattle.std.proofs.lemmas.List.Splits.{join_with_byte-slice_split}
use Rattle.table.specs.Text.{pieces}
use Rattle.table.specs.Write.{parted}
use Rattle.table.specs.Faults.{Free}
use Rattle.table.proofs.Cuts.{pieces_past, pieces_last}

-- the pieces parted again are the text
pub parted_pieces : (b : ℕ) (xs : List ℕ) → parted b (pieces b xs) ≡ xs
parted_pieces b xs = join_with_byte-slice_split b xs

-- parts with no byte b in them, parted by b, are the pieces
pub pieces_parted : (b : ℕ) (p : List ℕ) (ps : List (List ℕ)) → AllByRecursion (Free b) (p ∷ ps) → pieces b (parted b (p ∷ ps)) ≡ p ∷ ps
pieces_parted b p [] h = pieces_last b p h.0
pieces_parted b p (q ∷ ps) h = pieces_past b p (parted b (q ∷ ps)) h.0 ∙ ap (λ (qs : List (List ℕ)). p ∷ qs) (pieces_parted b q ps h.1)

-- no byte b in parts, nor in them parted by another byte
pub free_parted : (b c : ℕ) (ps : List (List ℕ)) → (c ≡ b → ⊥) → AllByRecursion (Free b) ps → Free b (parted c ps)
free_parted b c [] n h = tt
free_parted b c (p ∷ []) n h = h.0
free_parted b c (p ∷ q ∷ ps) n h = All-append (λ x. x ≡ b → ⊥) p (c ∷ parted c (q ∷ ps)) h.0 (n, free_parted b c (q ∷ ps) n h.1)

-- digits have no byte below them
pub free_digits : (b : ℕ) (s : List ℕ) → b < 48 → all_ascii_digits s ≡ true → Free b s
free_digits b [] l h = tt
free_digits b (c ∷ cs) l h =
    let p = and_parts (is_ascii_digit c) (all_ascii_digits cs) h in
    ((λ e. omega (arith, leb-true 48 c (and_parts _ _ p.0).0)), free_digits b cs l p.1)
