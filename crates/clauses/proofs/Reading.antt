-- What the bytes of a workspace say of its machines.
use Rattle.std.proofs.Common.{◌≡◌, ℕ, suc, ◌+◌, ◌*◌, ◌<◌, ◌≤◌, Bool, true, false, cond, ◌&&◌, eqb, ltb, leb, List, length, get_or, drop, is_some, None, refl, ap, ◌∙◌, mul-le-mul_right, suc-mul, arith}
use Rattle.std.proofs.lemmas.Bool.{cond-true, and_from, lt-ltb, le-leb}
use Rattle.lts.specs.Machines.{Machine, stable, tau_reaches}
use Rattle.closure.specs.Sheets.{Closed, cells}
use Rattle.clauses.specs.Ranks.{reads, row_reads, rank_at, rank_in}
use Rattle.clauses.specs.Candidates.{rest_fails, rest_on, first_rest_at, first_failing}
use Rattle.clauses.specs.Workspaces.{pairs, base, Prepared, RowOf, stood_in, first_in}
use Rattle.clauses.specs.Uncovered.{uncovered_by}
use Rattle.clauses.proofs.Agreeing.{at_same, first_agrees}

-- row p of the ranks lies inside
pub rows_fit : (p n m k : ℕ) → p < n → 2 * (n * m) ≤ k → 2 * (p * m + m) ≤ k
rows_fit p n m k h l =
    let z : suc p * m ≤ n * m = mul-le-mul_right m h in
    omega (arith, z, suc-mul p m)

-- a rank that there is room for
pub rank_told : (bytes : List ℕ) (i r : ℕ) → r ≡ rank_in bytes i → 2 * i + 1 < length bytes → r ≡ rank_at bytes i
rank_told bytes i r e h = e ∙ cond-true (ltb (2 * i + 1) (length bytes)) (rank_at bytes i) 0 (lt-ltb (2 * i + 1) (length bytes) h)

-- a byte of a closure tells its test
bit : (b : Bool) → eqb (cond b 1 0) 1 ≡ b
bit true = refl
bit false = refl

-- what is read from a closure
pub reads_closed : (M : Machine) (w : List ℕ) (n p q : ℕ) → n ≡ M.size → Closed M w → p < M.size → q < M.size → reads w n p q ≡ tau_reaches M p q
reads_closed M w n p q e s h l =
    ap (λ (x : ℕ). eqb (get_or w (p * x + q) 0) 1) e ∙ ap (λ (b : ℕ). eqb b 1) (s.bytes p q h l) ∙ bit (tau_reaches M p q)

module _ (M N : Machine) (n m : ℕ) (en : n ≡ M.size) (em : m ≡ N.size) where
  pub square : n * n ≡ cells M
  square = ap (λ (x : ℕ). x * x) en

  -- where the ranks begin
  pub base_same : n * n + m * m ≡ base M N
  base_same = ap (λ (x : ℕ). x + m * m) square ∙ ap (λ (x : ℕ). cells M + x * x) em

  -- how many there are
  pub pairs_same : n * m ≡ pairs M N
  pairs_same = ap (λ (x : ℕ). x * m) en ∙ ap (λ (x : ℕ). M.size * x) em

-- in a workspace that holds the closures it is what fails
pub found_failing : (M N : Machine) (w : List ℕ) (k p q : ℕ) → Prepared M N w → p < M.size → q < N.size → first_in M N w k p q ≡ first_failing M N (stood_in M N k w) p q
unfolding first_in first_failing
found_failing M N w k p q r h l =
    cond-true (ltb p M.size && (ltb q N.size && leb (base M N + 2 * pairs M N) (length w))) _ None
    (and_from _ _ (lt-ltb p M.size h) (and_from _ _ (lt-ltb q N.size l) (le-leb (base M N + 2 * pairs M N) (length w) r.room)))
    ∙ first_agrees M N p q (reads w M.size) (tau_reaches M) (reads (drop (cells M) w) N.size) (tau_reaches N) (stood_in M N k w) (stood_in M N k w)
    (λ t b. reads_closed M w M.size p t refl r.first h b)
    (λ t b. reads_closed N (drop (cells M) w) N.size q t refl r.second l b)
    (λ a b _ _. refl)

-- by its row alone, what a state of the contract leaves uncovered
pub uncovered_row : (M N : Machine) (sheet row : List ℕ) (q p : ℕ) → RowOf N sheet q row → uncovered_by M N (row_reads row) 0 p ≡ uncovered_by M N (reads sheet N.size) q p
unfolding uncovered_by first_rest_at rest_on rest_fails
uncovered_row M N sheet row q p r =
    ap (λ o. stable M p && is_some o) (any_number ∙ at_same M N p q (tau_reaches M) (tau_reaches M) (row_reads row) (reads sheet N.size) (λ _ _. true) (λ _ _. true) (λ _ _. refl) r.same (λ _ _ _ _. refl) p)
  where
    any_number : first_rest_at M N (row_reads row) 0 p ≡ first_rest_at M N (row_reads row) q p
    any_number = refl
