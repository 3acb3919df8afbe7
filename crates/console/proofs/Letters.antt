-- The letters of a text, one after another.
use Rattle.std.proofs.Common.{◌≡◌, ℕ, zero, suc, ◌+◌, ◌<◌, true, false, List, [], ◌∷◌, ◌++◌, length, take, nat_lt, Some, None, Option, sym, ap, ◌∙◌, subst, refl, add-one, arith}
use Rattle.std.proofs.lemmas.Bool.{true≢false, lt-ltb, le-ltb}
use Rattle.std.proofs.lemmas.List.{append-nil, append_assoc, length-append}
use Rattle.std.proofs.lemmas.Str.{IsUtf8-past_char, chars_past_char, chars-nil}
use Rattle.std.specs.Char.{encode_utf8}
use Rattle.std.specs.Iterator.{SkipsThenYields, Yields}
use Rattle.std.specs.List.{slice_get}
use Rattle.std.specs.Option.{is_some}
use Rattle.std.specs.Str.{IsUtf8, chars}
use Rattle.std.specs.Str.Iter.{chars_rest, chars_steps}
use Rattle.std.specs.declared.str.Chars.{Chars}

take_next : (m n c : ℕ) (xs : List ℕ) → m + 1 ≡ n → take n (c ∷ xs) ≡ c ∷ take m xs
take_next m n c xs e = subst (λ k. take k (c ∷ xs) ≡ c ∷ take m xs) (sym (add-one m) ∙ e) refl

-- one letter more of up to n
pub next_letter : (whole past : List ℕ) (m n c : ℕ) (text rest : List ℕ) → IsUtf8 text → text ≡ encode_utf8 c ++ rest → m + 1 ≡ n → whole ≡ past ++ take n (chars text) → whole ≡ (past ++ c ∷ []) ++ take m (chars rest)
next_letter whole past m n c text rest utf e count kept =
    kept ∙ ap (λ (zs : List ℕ). past ++ zs) (ap (take n) (chars_past_char text rest c utf e) ∙ take_next m n c (chars rest) count) ∙ sym (append_assoc past (c ∷ []) (take m (chars rest)))

-- no letter is left of up to n
pub last_letter : (whole past : List ℕ) (n : ℕ) (text : List ℕ) → (0 < n → length text ≡ 0) → whole ≡ past ++ take n (chars text) → past ≡ whole
last_letter whole past zero text none kept = sym (kept ∙ append-nil past)
last_letter whole past (suc n) [] none kept = sym (kept ∙ ap (λ (zs : List ℕ). past ++ take (suc n) zs) chars-nil ∙ append-nil past)
last_letter whole past (suc n) (b ∷ bs) none kept = absurd (omega (arith, none (omega arith)))

-- the letters that are left once some were passed over
left_after : (s t : Chars) (xs : List ℕ) → Yields chars_steps s xs t → IsUtf8 (chars_rest s) → (chars (chars_rest s) ≡ xs ++ chars (chars_rest t)) × IsUtf8 (chars_rest t)
left_after s t [] y utf = (ap (λ (i : Chars). chars (chars_rest i)) y, subst (λ (i : Chars). IsUtf8 (chars_rest i)) y utf)
left_after s t (x ∷ xs) y utf =
    let later = left_after y.0 t xs y.2 (IsUtf8-past_char (chars_rest s) (chars_rest y.0) x utf y.1.0) in
    (chars_past_char (chars_rest s) (chars_rest y.0) x utf y.1.0 ∙ ap (λ (zs : List ℕ). x ∷ zs) later.0, later.1)

none_left : (zs : List ℕ) → ◌≡◌ {A = Option ℕ} None (slice_get zs 0) → length zs ≡ 0
none_left [] e = refl
none_left (z ∷ zs) e = absurd (let f : false ≡ true = ap is_some e in true≢false (sym f))

some_left : (zs : List ℕ) (c : ℕ) → Some c ≡ slice_get zs 0 → 0 < length zs
some_left [] c e = absurd (let t : true ≡ false = ap is_some e in true≢false t)
some_left (z ∷ zs) c e = omega arith

-- a letter comes behind n others exactly where there are more than n
pub more_letters : (s u : Chars) (n : ℕ) (r : Option ℕ) → IsUtf8 (chars_rest s) → SkipsThenYields chars_steps s n r u → is_some r ≡ nat_lt n (length (chars (chars_rest s)))
more_letters s u n None utf k =
    let l = (left_after s k.1.0 k.0 k.1.1 utf).0 in
    let none = none_left (chars (chars_rest k.1.0)) k.1.2.2 in
    sym (le-ltb n (length (chars (chars_rest s))) (omega (arith, ap length l, length-append k.0 (chars (chars_rest k.1.0)), none, k.2)))
more_letters s u n (Some c) utf k =
    let l = (left_after s k.1.0 k.0 k.1.1 utf).0 in
    let some = some_left (chars (chars_rest k.1.0)) c k.1.2.2 in
    sym (lt-ltb n (length (chars (chars_rest s))) (omega (arith, ap length l, length-append k.0 (chars (chars_rest k.1.0)), some, k.2)))
