-- What a text is entered as.
use Rattle.std.proofs.Common.{◌≡◌, ℕ, ◌<◌, true, false, ltb, List, length, is_ok, Ok, Err, Result, sym, refl, ap, ◌∙◌, ⊎_elim, arith}
use Rattle.std.proofs.lemmas.Bool.{cases_Bool, cond-true, cond-false, and_from, lt-ltb, le-leb, true≢false}
use Rattle.lts.specs.Machines.{Machine, Fits}
use Rattle.source.specs.Tables.{table_size}
use Rattle.table.specs.declared.checked.Summary.{Summary}
use Rattle.table.specs.declared.fault.Fault.{Fault}
use Rattle.table.specs.Fault.{line_of}
use Rattle.table.specs.Table.{Listing, read_text, summary_of, in_room}
use Rattle.table.proofs.Results.{no_err, same_fault}
use Rattle.table.proofs.Law.{reads_what_is_written}
use Rattle.source.specs.declared.table.Table.{Table}
use Rattle.ranks.specs.Filled.{workspace_after}
use Rattle.installer.specs.Outcomes.{means, Enters, machine_of, if_both, worked_on, entered, machine_by, TablesFit}
use Rattle.installer.proofs.Bounds.{read_line_small}

-- the summary of a listing
abbrev summary : Listing → Summary
summary t = record { states = t.states; start = t.start; moves = length t.moves }

-- the fault of a text is in one of its lines
fault_small : (text : List ℕ) (r : Result Listing Fault) (f : Fault) → read_text text ≡ r → Err f ≡ in_room 1024 (summary_of r) → line_of f < 65536
fault_small text (Err g) f e h = read_line_small text f (e ∙ sym (ap (λ (x : Fault). Err x) (same_fault {A = Summary} f g h)))
fault_small text (Ok t) f e h = ⊎_elim
    (λ (b : ltb 1024 (length t.moves) ≡ true).
    omega (arith, ap line_of (same_fault {A = Summary} f Fault.NoRoom (h ∙ cond-true (ltb 1024 (length t.moves)) (Err Fault.NoRoom) (Ok (summary t)) b))))
    (λ (b : ltb 1024 (length t.moves) ≡ false). no_err f (summary t) (h ∙ cond-false (ltb 1024 (length t.moves)) (Err Fault.NoRoom) (Ok (summary t)) b))
    (cases_Bool (ltb 1024 (length t.moves)))

pub entered_small : (text : List ℕ) (f : Fault) → Err f ≡ entered text → line_of f < 65536
entered_small text f e = fault_small text (read_text text) f refl e

-- a table that is read is a machine of some states
fits_by : (text : List ℕ) (r : Result Listing Fault) (s : Summary) → read_text text ≡ r → in_room 1024 (summary_of r) ≡ Ok s → Fits (machine_by r)
fits_by text (Err g) s e h = no_err g s h
fits_by text (Ok t) s e h =
    let w = ((reads_what_is_written text t).0 e).0 in
    let size : table_size t.states t.start ≡ t.states =
    cond-true _ t.states 0 (and_from _ _ (lt-ltb t.start t.states w.2) (le-leb t.states 255 (omega (arith, w.1)))) in
    omega (arith, size, w.0)

pub tables_fit : (text : List ℕ) → TablesFit text
tables_fit text s e = fits_by text (read_text text) s refl e

-- where both texts are read, the judge fills the workspace
if_read : {A : Type 0} (x y : Result Summary Fault) (u v : A) → is_ok x ≡ true → is_ok y ≡ true → u ≡ if_both x y u v
if_read (Ok s) (Ok t) u v p q = refl
if_read (Err f) y u v p q = absurd (true≢false (sym p))
if_read (Ok s) (Err f) u v p q = absurd (true≢false (sym q))

pub both_entered : (a b was : List ℕ) (t u : Table) → Enters 1 a (Ok t) → Enters 2 b (Ok u) → workspace_after (means t) (means u) was ≡ worked_on a b was
both_entered a b was t u p q =
    ap (λ (M : Machine). workspace_after M (means u) was) p.1 ∙ ap (λ (N : Machine). workspace_after (machine_of a) N was) q.1
    ∙ if_read (entered a) (entered b) (workspace_after (machine_of a) (machine_of b) was) was p.0 q.0
