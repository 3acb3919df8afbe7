use Rattle.std.proofs.Common.{◌≡◌, ℕ, ◌+◌, ◌-◌, ◌*◌, ◌^◌, ◌<◌, ◌≤◌, true, cond, not, ◌&&◌, eqb, ltb, List, [], ◌∷◌, length, get_or, Some, None, decimal, Option, sym, refl, ap, ◌∙◌, inl, inr, arith, rules}
use Rattle.std.specs.Char.{is_ascii_digit}
use Rattle.std.specs.Str.{all_ascii_digits}
use Rattle.std.proofs.lemmas.Bool.{and_parts, and_from, lt-ltb, le-ltb, ltb-true, cases_Bool, cases_lt, ne_eqb, eqb-false, not-true}
use Rattle.std.proofs.lemmas.Str.Parse.{IsNumeralModel, numerals_by_fold}
use Rattle.std.proofs.lemmas.Fmt.{decimal-digits_value, digits_decimal, digits_value-decimal, decimal_nonempty, first_decimal, decimal_digit}
use Rattle.std.proofs.lemmas.Option.{none-some}
use Rattle.table.proofs.Cuts.{cond_some_of}
use Rattle.table.proofs.Folds.{folds}
use Rattle.table.specs.Text.{figure_below, figure_on, no_leading_zero}

-- the number that digits write, after a number so far
abbrev read_on : ℕ → List ℕ → ℕ
read_on n [] = n
read_on n (c ∷ cs) = read_on (n * 10 + (c - 48)) cs

-- that number is what the library reads of digits
own : IsNumeralModel (λ ds. all_ascii_digits ds ≡ true) (read_on 0)
own = numerals_by_fold _ (search rules) read_on (search rules)

-- more digits make no less
read_on_ge : (n : ℕ) (s : List ℕ) → n ≤ read_on n s
read_on_ge n [] = omega arith
read_on_ge n (c ∷ cs) = omega (arith, read_on_ge (n * 10 + (c - 48)) cs)

-- what is read is all digits, and its number
on_some : (limit n m : ℕ) (s : List ℕ) → n < limit → figure_on limit n s ≡ Some m → (all_ascii_digits s ≡ true) × (read_on n s ≡ m) × (m < limit)
on_some limit n m [] l h = let e : n ≡ m = cc in (refl, e, omega arith)
on_some limit n m (c ∷ cs) l h =
    elim (cases_Bool (is_ascii_digit c && ltb (n * 10 + (c - 48)) limit)) [
      | inl t ↦
          let p = and_parts (is_ascii_digit c) (ltb (n * 10 + (c - 48)) limit) t in
          let r = on_some limit (n * 10 + (c - 48)) m cs (ltb-true _ _ p.1) (rw t at h) in
          (and_from _ _ p.0 r.0, r.1, r.2)
      | inr f ↦ let z : ◌≡◌ {A = Option ℕ} None (Some m) = rw f at h in absurd (grind arith)
    ]

-- digits whose number lies below the limit are read
on_from : (limit n : ℕ) (s : List ℕ) → all_ascii_digits s ≡ true → read_on n s < limit → figure_on limit n s ≡ Some (read_on n s)
on_from limit n [] d h = refl
on_from limit n (c ∷ cs) d h =
    let p = and_parts (is_ascii_digit c) (all_ascii_digits cs) d in
    let q : n * 10 + (c - 48) < limit = omega (arith, read_on_ge (n * 10 + (c - 48)) cs) in
    let t : (is_ascii_digit c && ltb (n * 10 + (c - 48)) limit) ≡ true = and_from _ _ p.0 (lt-ltb _ _ q) in
    rw t (on_from limit (n * 10 + (c - 48)) cs p.1 h)

-- a figure without a leading zero passes the test
plain_true : (s : List ℕ) → 0 < length s → (get_or s 0 0 ≡ 48 → length s ≡ 1) → no_leading_zero s ≡ true
plain_true [] l h = absurd (omega arith)
plain_true (c ∷ []) l h = refl
plain_true (c ∷ d ∷ ds) l h = ap not (ne_eqb c 48 (λ e. omega (arith, h e)))

-- and only such a one does
plain_parts : (s : List ℕ) → no_leading_zero s ≡ true → (0 < length s) × (get_or s 0 0 ≡ 48 → length s ≡ 1)
plain_parts [] h = absurd (grind arith)
plain_parts (c ∷ []) h = (omega arith, λ _. refl)
plain_parts (c ∷ d ∷ ds) h = (omega arith, λ e. absurd (eqb-false c 48 (not-true (eqb c 48) h) e))

-- a figure that is read lies below the limit, and is the decimal of its number
pub figure_some : (limit n : ℕ) (s : List ℕ) → 0 < limit → limit ≤ 256 → figure_below limit s ≡ Some n → (n < limit) × (s ≡ decimal n)
figure_some limit n s z l h =
    elim (cases_Bool (no_leading_zero s)) [
      | inl t ↦
          let p = plain_parts s t in
          let r = on_some limit 0 n s z (rw t at h) in
          let small : read_on 0 s < 2 ^ 64 = omega (arith, r.1, r.2) in
          (r.2, sym (decimal-digits_value own s r.0 p.0 p.1 small) ∙ ap decimal r.1)
      | inr f ↦ let e : ◌≡◌ {A = Option ℕ} None (Some n) = rw f at h in absurd (grind arith)
    ]

-- the decimal of a number below the limit is read
pub figure_from : (limit n : ℕ) → limit ≤ 256 → n < limit → figure_below limit (decimal n) ≡ Some n
figure_from limit n l h =
    let small : n < 2 ^ 64 = omega arith in
    let v = digits_value-decimal own n small in
    let lead : get_or (decimal n) 0 0 ≡ 48 → length (decimal n) ≡ 1 =
    λ e. elim (cases_lt 0 n) [ inl p ↦ omega (arith, first_decimal n p small) | inr z ↦ ap length (decimal_digit n (omega arith)) ] in
    rw (plain_true (decimal n) (decimal_nonempty n small) lead) (on_from limit 0 (decimal n) (digits_decimal own n small) (omega arith) ∙ ap Some v)

-- a decimal is digits
pub digits_of_decimal : (n : ℕ) → n < 256 → all_ascii_digits (decimal n) ≡ true
digits_of_decimal n h = digits_decimal own n (omega arith)

-- the number with a digit more, where it stays small
abbrev pub longer : ℕ → ℕ → Option ℕ
longer n c = cond (is_ascii_digit c && ltb (n * 10 + (c - 48)) 256) (Some (n * 10 + (c - 48))) None

-- a small figure is read by a fold over its digits
pub figure_folds : (n : ℕ) (s : List ℕ) → folds longer n s ≡ figure_on 256 n s
figure_folds n [] = refl
figure_folds n (c ∷ cs) =
    elim (cases_Bool (is_ascii_digit c && ltb (n * 10 + (c - 48)) 256)) [
      | inl t ↦ rw t (figure_folds (n * 10 + (c - 48)) cs)
      | inr f ↦ rw f refl
    ]

-- only below a limit above 0 is a figure read
above_none : (limit n : ℕ) (s : List ℕ) → figure_below limit s ≡ Some n → 0 < limit
above_none limit n [] h = absurd (none-some n h)
above_none limit n (c ∷ cs) h =
    let t = cond_some_of (no_leading_zero (c ∷ cs)) (figure_on limit 0 (c ∷ cs)) n h in
    let u = cond_some_of (is_ascii_digit c && ltb (0 * 10 + (c - 48)) limit) (figure_on limit (0 * 10 + (c - 48)) cs) n t.1 in
    let l = ltb-true (0 * 10 + (c - 48)) limit (and_parts (is_ascii_digit c) (ltb (0 * 10 + (c - 48)) limit) u.0).1 in
    omega (arith, l)

-- what a figure below 256 is where it has to lie below a limit
abbrev pub kept : ℕ → Option ℕ → Option ℕ
kept limit None = None
kept limit (Some n) = cond (ltb n limit) (Some n) None

-- a figure below a limit is one below 256 that is kept
pub figure_kept : (limit : ℕ) (s : List ℕ) → limit ≤ 256 → figure_below limit s ≡ kept limit (figure_below 256 s)
figure_kept limit s l = go (figure_below limit s) (figure_below 256 s) refl refl
  where
    go : (a b : Option ℕ) → figure_below limit s ≡ a → figure_below 256 s ≡ b → a ≡ kept limit b
    go None None p q = refl
    go None (Some n) p q =
        let r = figure_some 256 n s (omega arith) (omega arith) q in
        elim (cases_lt n limit) [
          | inl m ↦ absurd (none-some n (sym p ∙ ap (figure_below limit) r.1 ∙ figure_from limit n l m))
          | inr m ↦ rw (le-ltb n limit m)
        ]
    go (Some m) b p q =
        let r = figure_some limit m s (above_none limit m s p) l p in
        let e : b ≡ Some m = sym q ∙ ap (figure_below 256) r.1 ∙ figure_from 256 m (omega arith) (omega (arith, r.0)) in
        rw (e, lt-ltb m limit r.0)
