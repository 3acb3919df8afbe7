-- What is read from a workspace that holds the final ranks.
use Rattle.std.proofs.Common.{◌≡◌, ℕ, zero, suc, ◌+◌, ◌-◌, ◌*◌, ◌/◌, ◌%◌, ◌<◌, List, [], ◌∷◌, ◌++◌, length, get_or, drop, Some, None, sym, refl, ap, ◌∙◌, subst, arith, length-append, length-drop}
use lib.Arith.{digits_lt}
use Rattle.std.proofs.lemmas.List.{drop-drop, drop_at, ext_get_or}
use Rattle.lts.specs.Machines.{Machine, Sound, Fits, tau_reaches}
use Rattle.closure.specs.Sheets.{cells, closure_sheet, Closed}
use Rattle.closure.proofs.Sheets.{length_sheet, sheet_closed}
use Rattle.clauses.specs.Ranks.{rank_at, rank_in, stood_by}
use Rattle.clauses.specs.Candidates.{first_failing}
use Rattle.clauses.specs.Workspaces.{pairs, base, stood_in, first_in}
use Rattle.clauses.specs.declared.counterexample.Counterexample.{Counterexample}
use Rattle.clauses.proofs.Agreeing.{first_agrees}
use Rattle.clauses.proofs.Reading.{rank_told, found_failing}
use Rattle.ranks.specs.Rounds.{stands, ranks_after, final_ranks, ranks_in}
use Rattle.ranks.specs.Filled.{laid, total, whole}
use Rattle.ranks.proofs.After.{length_ranks, pair_in}
use Rattle.ranks.proofs.Placed.{ranks_at, length_in}
use Rattle.judge.specs.Verdicts.{start_rank, no_by, answer_by, answer, Holding}
use Rattle.judge.specs.declared.verdict.Answer.TheVariants.{Yes, No}
use Rattle.judge.proofs.Struck.{stood_final, struck_some}

-- ranks that are laid out are read back
laid_back : (xs rest : List ℕ) (i : ℕ) → i < length xs → rank_at (laid xs ++ rest) i ≡ get_or xs i 0
laid_back [] rest i h = absurd (omega arith)
laid_back (x ∷ xs) rest zero h = omega arith
laid_back (x ∷ xs) rest (suc i) h =
    let bs = laid xs ++ rest in
    let a : 2 * suc i ≡ suc (suc (2 * i)) = omega arith in
    let b : 2 * suc i + 1 ≡ suc (suc (2 * i + 1)) = omega arith in
    ap (λ (n : ℕ). get_or (x % 256 ∷ x / 256 ∷ bs) n 0 + 256 * get_or (x % 256 ∷ x / 256 ∷ bs) (2 * suc i + 1) 0) a
    ∙ ap (λ (n : ℕ). get_or bs (2 * i) 0 + 256 * get_or (x % 256 ∷ x / 256 ∷ bs) n 0) b
    ∙ laid_back xs rest i (omega arith)

-- two bytes a rank
laid_long : (xs : List ℕ) → length (laid xs) ≡ 2 * length xs
laid_long [] = refl
laid_long (x ∷ xs) = omega (arith, laid_long xs)

module _ (M N : Machine) where
  length_final : length (final_ranks M N) ≡ pairs M N
  unfolding final_ranks
  length_final = length_ranks M N _

  -- a workspace that is filled
  pub whole_held : (was : List ℕ) → Fits M → Fits N → Holding M N (whole M N was)
  whole_held was f g =
      let tail = laid (final_ranks M N) ++ drop (total M N) was in
      let w = whole M N was in
      let one : drop (cells M) w ≡ closure_sheet N ++ tail = drop_at (closure_sheet M) (closure_sheet N ++ tail) (cells M) (length_sheet M) in
      let two : drop (base M N) w ≡ tail = sym (drop-drop (cells N) (cells M) w) ∙ ap (drop (cells N)) one ∙ drop_at (closure_sheet N) tail (cells N) (length_sheet N) in
      record {
        some = f;
        more = g;
        ready = record {
          room = omega (
            arith,
            length-append (closure_sheet M) (closure_sheet N ++ tail),
            length-append (closure_sheet N) tail,
            length-append (laid (final_ranks M N)) (drop (total M N) was),
            length_sheet M,
            length_sheet N,
            laid_long (final_ranks M N),
            length_final,
          );
          first = sheet_closed M (closure_sheet N ++ tail);
          second = subst (Closed N) (sym one) (sheet_closed N tail);
        };
        ranks = ext_get_or 0 (ranks_in M N w) (final_ranks M N) (length_in M N w ∙ sym length_final) (λ i h.
            let b : i < pairs M N = omega (arith, length_in M N w) in
            ranks_at M N w i b ∙ ap (λ (v : List ℕ). rank_at v i) two ∙ laid_back (final_ranks M N) (drop (total M N) was) i (omega (arith, length_final)));
      }

  module _ (w : List ℕ) (h : Holding M N w) where
    pub final_at : (i : ℕ) → i < pairs M N → rank_at (drop (base M N) w) i ≡ get_or (final_ranks M N) i 0
    final_at i b = sym (ranks_at M N w i b) ∙ ap (λ (v : List ℕ). get_or v i 0) h.ranks

    -- as the code reads it
    pub read_rank : (ranks : List ℕ) (i : ℕ) → ranks ≡ drop (base M N) w → i < pairs M N → rank_in ranks i ≡ get_or (final_ranks M N) i 0
    read_rank ranks i e b =
        let r = h.ready.room in
        ap (λ (v : List ℕ). rank_in v i) e ∙ rank_told (drop (base M N) w) i _ refl (omega (arith, length-drop (base M N) w)) ∙ final_at i b

    -- the bytes tell what stood before the round that struck a pair
    pub failing_same : (k p q : ℕ) → p < M.size → q < N.size → get_or (final_ranks M N) (p * N.size + q) 0 ≡ suc k →
        first_failing M N (stood_in M N (suc k) w) p q ≡ first_failing M N (stands N (ranks_after M N k)) p q
    unfolding first_failing
    failing_same k p q a b e =
        first_agrees M N p q (tau_reaches M) (tau_reaches M) (tau_reaches N) (tau_reaches N) (stood_in M N (suc k) w) (stands N (ranks_after M N k)) (λ t _. refl) (λ t _. refl)
        (λ x y c d. ap (stood_by (suc k)) (final_at (x * N.size + y) (pair_in M N x y c d))
        ∙ stood_final M N k (p * N.size + q) (x * N.size + y) (pair_in M N p q a b) (pair_in M N x y c d) e)

-- the start is a state
pub start_in : (M : Machine) → Sound M → Fits M → M.start < M.size
start_in M s f = let b = s.begins in omega arith

-- the answer of a pair that stands
pub answer_yes : (M N : Machine) → start_rank M N ≡ 0 → Yes ≡ answer M N
unfolding answer
answer_yes M N e = sym (ap (answer_by M N) e)

-- what is read of the starts
module _ (M N : Machine) (s : Sound M) (u : Sound N) (w : List ℕ) (h : Holding M N w) where
  sp : M.start < M.size
  sp = start_in M s h.some

  -- and so is the other
  sq : N.start < N.size
  sq = start_in N u h.more

  -- the rank of the starts
  pub read_start : (ranks : List ℕ) (m p q : ℕ) → ranks ≡ drop (base M N) w → m ≡ N.size → p ≡ M.start → q ≡ N.start → rank_in ranks (p * m + q) ≡ start_rank M N
  read_start ranks m p q er em ep eq =
      let z : p * m + q ≡ M.start * N.size + N.start =
      ap (λ (x : ℕ). x * m + q) ep ∙ ap (λ (x : ℕ). M.start * x + q) em ∙ ap (λ (x : ℕ). M.start * N.size + x) eq in
      ap (rank_in ranks) z ∙ read_rank M N w h ranks (M.start * N.size + N.start) er (digits_lt sp sq)

  -- a pair that is struck has a candidate that fails, and the code finds it
  module _ (r p q : ℕ) (e : r ≡ start_rank M N) (struck : 0 < r) (ep : p ≡ M.start) (eq : q ≡ N.start) where
    er : r ≡ suc (r - 1)
    er = omega arith

    found_same : first_in M N w r p q ≡ first_failing M N (stands N (ranks_after M N (r - 1))) M.start N.start
    found_same =
        ap (λ (x : ℕ). first_in M N w r x q) ep ∙ ap (first_in M N w r M.start) eq
        ∙ found_failing M N w r M.start N.start h.ready sp sq
        ∙ ap (λ (x : ℕ). first_failing M N (stood_in M N x w) M.start N.start) er
        ∙ failing_same M N w h (r - 1) M.start N.start sp sq (sym e ∙ er)

    pub answer_no : (c : Counterexample) → Some c ≡ first_in M N w r p q → No r c ≡ answer M N
    unfolding answer
    answer_no c z = ap (λ (x : ℕ). No x c) er ∙ sym (ap (answer_by M N) (sym e ∙ er) ∙ ap (no_by (suc (r - 1))) (sym found_same ∙ sym z))

    pub never_none : None ≡ first_in M N w r p q → ⊥
    never_none z = struck_some M N (r - 1) M.start N.start sp sq (sym e ∙ er) (sym found_same ∙ sym z)
