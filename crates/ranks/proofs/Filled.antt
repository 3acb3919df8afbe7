-- Ranks that are laid out, and the room for closures and ranks.
use Rattle.std.proofs.Common.{◌≡◌, ℕ, suc, ◌+◌, ◌*◌, ◌/◌, ◌%◌, ◌<◌, leb, List, [], ◌∷◌, ◌++◌, length, get_or, drop, replicate, sym, ap, ◌∙◌, subst, mul_comm, add-mul, mul-add, arith}
use Rattle.std.proofs.lemmas.List.{append-nil, drop_all, ext_get_or, nil_from_length, get_or-replicate}
use Rattle.std.proofs.lemmas.Bool.{cond-true, le-leb}
use Rattle.lts.specs.Machines.{Machine}
use Rattle.closure.specs.Sheets.{cells, closure_sheet, closure_after, Closed}
use Rattle.closure.proofs.Sheets.{sheet_closed}
use Rattle.clauses.specs.Workspaces.{pairs}
use Rattle.ranks.specs.Rounds.{ranks_after, ranks_of}
use Rattle.ranks.specs.Filled.{laid}
use Rattle.ranks.proofs.After.{length_ranks, ranks_none}
use Rattle.ranks.proofs.Placed.{rank_of, length_of}

-- the closures and the ranks fill a square
pub binomial : (a b : ℕ) → (a + b) * (a + b) ≡ a * a + b * b + 2 * (a * b)
binomial a b = omega (arith, mul-add (a + b) a b, add-mul a b a, add-mul a b b, mul_comm b a)

-- bytes that lay ranks out
laid_is : (xs bs : List ℕ) → length bs ≡ 2 * length xs → ((i : ℕ) → i < length xs → (get_or bs (2 * i) 0 ≡ get_or xs i 0 % 256) × (get_or bs (2 * i + 1) 0 ≡ get_or xs i 0 / 256)) → bs ≡ laid xs
laid_is [] bs l h = nil_from_length bs l
laid_is (x ∷ xs) [] l h = absurd (omega arith)
laid_is (x ∷ xs) (a ∷ []) l h = absurd (omega arith)
laid_is (x ∷ xs) (a ∷ b ∷ bs) l h =
    let e = h 0 (omega arith) in
    let rest : bs ≡ laid xs =
    laid_is xs bs (omega arith)
    (λ i t.
    let z : 2 * suc i ≡ suc (suc (2 * i)) = omega arith in
    let y : 2 * suc i + 1 ≡ suc (suc (2 * i + 1)) = omega arith in
    let r = h (suc i) (omega arith) in
    (ap (λ (n : ℕ). get_or (a ∷ b ∷ bs) n 0) (sym z) ∙ r.0, ap (λ (n : ℕ). get_or (a ∷ b ∷ bs) n 0) (sym y) ∙ r.1))
    in
    ap (λ (n : ℕ). n ∷ b ∷ bs) e.0 ∙ ap (λ (n : ℕ). x % 256 ∷ n ∷ bs) e.1 ∙ ap (λ (t : List ℕ). x % 256 ∷ x / 256 ∷ t) rest

-- zeros
zero : (n i : ℕ) → i < n → let zeros : List ℕ = replicate n 0 in get_or zeros i 0 ≡ 0
zero n i h = get_or-replicate n i 0 0 h

-- a sheet of just the closure
pub sheet_filled : (M : Machine) (was sheet : List ℕ) → sheet ≡ closure_after M was → length was ≡ cells M → sheet ≡ closure_sheet M
sheet_filled M was sheet e h =
    e ∙ cond-true (leb (cells M) (length was)) (closure_sheet M ++ drop (cells M) was) was (le-leb (cells M) (length was) (omega arith))
    ∙ ap (λ (v : List ℕ). closure_sheet M ++ v) (drop_all (cells M) was (omega arith)) ∙ append-nil (closure_sheet M)

pub sheet_holds : (M : Machine) (sheet : List ℕ) → sheet ≡ closure_sheet M → Closed M sheet
sheet_holds M sheet e = rw e (subst (Closed M) (append-nil (closure_sheet M)) (sheet_closed M []))

module _ (M N : Machine) where
  pub laid_ranks : (w : List ℕ) → ((i : ℕ) → get_or w i 0 < 256) → length w ≡ 2 * pairs M N → w ≡ laid (ranks_of M N w)
  laid_ranks w small long =
      laid_is (ranks_of M N w) w (omega (arith, length_of M N w))
      (λ i h.
      let b : i < pairs M N = omega (arith, length_of M N w) in
      let v = rank_of M N w i b in
      let lo = small (2 * i) in
      (omega arith, omega arith))

  -- ranks that are all 0
  pub clear_ranks : (n : ℕ) → n ≡ 2 * pairs M N → ranks_of M N (replicate n 0) ≡ ranks_after M N 0
  clear_ranks n e =
      ext_get_or 0 (ranks_of M N (replicate n 0)) (ranks_after M N 0) (length_of M N (replicate n 0) ∙ sym (length_ranks M N 0))
      (λ i h.
      let b : i < pairs M N = omega (arith, length_of M N (replicate n 0)) in
      let v = rank_of M N (replicate n 0) i b in
      omega (arith, ranks_none M N i b, zero n (2 * i) (omega arith), zero n (2 * i + 1) (omega arith)))
