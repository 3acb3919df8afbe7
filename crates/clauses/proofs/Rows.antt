-- A pair by the rows of its two states.
use Rattle.std.proofs.Common.{◌≡◌, ℕ, ◌+◌, ◌-◌, ◌*◌, ◌<◌, ◌≤◌, Bool, true, false, ◌&&◌, ltb, leb, List, length, take, drop, None, sym, refl, ap, ◌∙◌, subst, ⊎_elim, arith, length-drop}
use Rattle.std.proofs.lemmas.Bool.{cond-true, cond-false, cases_Bool, and_parts, and_from, both_ways, lt-ltb, le-leb, ltb-true, leb-true}
use Rattle.lts.specs.Machines.{Machine}
use Rattle.closure.specs.Sheets.{cells}
use Rattle.closure.proofs.Parts.{part_end}
use Rattle.clauses.specs.Ranks.{reads, row_reads, stood_at}
use Rattle.clauses.specs.Candidates.{weak_by, move_fails, first_move_on, first_move, rest_fails, rest_on, first_rest_at, rests_from, first_rest, first_by}
use Rattle.clauses.specs.Workspaces.{pairs, base, NoRow, RowOf, stood_in, first_in}
use Rattle.clauses.proofs.Agreeing.{first_agrees}
use Rattle.clauses.proofs.Reading.{base_same, pairs_same}

module _ (M N : Machine) (w : List ℕ) (k p q : ℕ) where
  abbrev asked : Bool
  asked = ltb p M.size && (ltb q N.size && leb (base M N + 2 * pairs M N) (length w))

  -- no candidate of what is no pair, or where there is too little room
  pub lacking : (p < M.size → q < N.size → base M N + 2 * pairs M N ≤ length w → ⊥) → None ≡ first_in M N w k p q
  unfolding first_in
  lacking lacks = sym (cond-false asked _ None (⊎_elim
      (λ (t : asked ≡ true).
      let x = and_parts (ltb p M.size) _ t in
      let y = and_parts (ltb q N.size) (leb (base M N + 2 * pairs M N) (length w)) x.1 in
      absurd (lacks (ltb-true p M.size x.0) (ltb-true q N.size y.0) (leb-true (base M N + 2 * pairs M N) (length w) y.1)))
      (λ (t : asked ≡ false). t)
      (cases_Bool asked)))

  -- what its two rows tell is what the workspace tells
  pub found_rows : (own other : List ℕ) → RowOf M w p own → RowOf N (drop (cells M) w) q other → base M N + 2 * pairs M N ≤ length w →
      first_by M N (row_reads own) (row_reads other) (stood_in M N k w) 0 0 ≡ first_in M N w k p q
  unfolding first_in weak_by move_fails first_move_on first_move rest_fails rest_on first_rest_at rests_from first_rest
  found_rows own other r u room =
      any_numbers ∙ first_agrees M N p q (row_reads own) (reads w M.size) (row_reads other) (reads (drop (cells M) w) N.size) (stood_in M N k w) (stood_in M N k w) r.same u.same (λ _ _ _ _. refl)
      ∙ sym (cond-true asked _ None (and_from _ _ (lt-ltb p M.size r.state) (and_from _ _ (lt-ltb q N.size u.state) (le-leb (base M N + 2 * pairs M N) (length w) room))))
    where
      any_numbers : first_by M N (row_reads own) (row_reads other) (stood_in M N k w) 0 0 ≡ first_by M N (row_reads own) (row_reads other) (stood_in M N k w) p q
      any_numbers = refl

-- the parts that the code cuts from the workspace, where the rows have n and m bytes
module _ (M N : Machine) (w : List ℕ) (k p q n m : ℕ) (en : n ≡ M.size) where
  abbrev cut : ℕ → List ℕ
  cut a = take (length w - a) (drop a w)

  sheet_same : cut (n * n) ≡ drop (cells M) w
  sheet_same = part_end (n * n) w ∙ ap (λ (x : ℕ). drop (x * x) w) en

  -- no row for the state of the module
  pub no_module : NoRow M w p → None ≡ first_in M N w k p q
  no_module e = lacking M N w k p q (λ h l room. both_ways _ e (and_from _ _ (lt-ltb p M.size h) (le-leb (cells M) (length w) (omega arith))))

  -- or for that of the contract
  pub no_contract : NoRow N (cut (n * n)) q → None ≡ first_in M N w k p q
  no_contract e =
      let f : NoRow N (drop (cells M) w) q = subst (λ (z : List ℕ). NoRow N z q) sheet_same e in
      lacking M N w k p q (λ h l room. both_ways _ f (and_from _ _ (lt-ltb q N.size l) (le-leb (cells N) (length (drop (cells M) w)) (omega (arith, length-drop (cells M) w)))))

  module _ (em : m ≡ N.size) where
    ranks_same : cut (n * n + m * m) ≡ drop (base M N) w
    ranks_same = part_end (n * n + m * m) w ∙ ap (λ (x : ℕ). drop x w) (base_same M N n m en em)

    -- too few ranks
    pub too_short : length (cut (n * n + m * m)) < 2 * (n * m) → None ≡ first_in M N w k p q
    too_short h = lacking M N w k p q (λ _ _ room. omega (arith, ap length ranks_same, length-drop (base M N) w, pairs_same M N n m en em))

    -- all is there
    pub found_pair : (own other : List ℕ) → RowOf M w p own → RowOf N (cut (n * n)) q other → 2 * (n * m) ≤ length (cut (n * n + m * m)) →
        first_by M N (row_reads own) (row_reads other) (stood_at k (cut (n * n + m * m)) m) 0 0 ≡ first_in M N w k p q
    found_pair own other r u room =
        let v : RowOf N (drop (cells M) w) q other = subst (λ (z : List ℕ). RowOf N z q other) sheet_same u in
        let a = r.room in
        let b = v.room in
        ap (λ (z : List ℕ). first_by M N (row_reads own) (row_reads other) (stood_at k z m) 0 0) ranks_same
        ∙ ap (λ (x : ℕ). first_by M N (row_reads own) (row_reads other) (stood_at k (drop (base M N) w) x) 0 0) em
        ∙ found_rows M N w k p q own other r v
        (omega (arith, ap length ranks_same, length-drop (base M N) w, length-drop (cells M) w, pairs_same M N n m en em))
