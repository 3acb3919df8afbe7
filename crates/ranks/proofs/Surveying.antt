-- What is known of the two machines before the rounds.
use Rattle.std.proofs.Common.{◌≡◌, ℕ, ◌<◌, ◌≤◌, Bool, true, not, ◌&&◌, eqb, ltb, leb, List, length, is_some, sym, refl, ap, ◌∙◌, subst, ⊎_elim, arith}
use Rattle.std.proofs.lemmas.Bool.{and_parts, and_from, and_left, lt-ltb, le-ltb, le-leb, ltb-true, eqb-true, eq-eqb, cases_lt}
use Rattle.lts.specs.Machines.{Machine, Sound, some_below, tau_reaches, stable}
use Rattle.lts.specs.Conformance.{passes_refusals}
use Rattle.lts.specs.Some.{same, some_in, some_out}
use Rattle.dense.specs.declared.row.Row.{Row}
use Rattle.dense.specs.Rows.{in_row}
use Rattle.dense.specs.Copies.{moves_into}
use Rattle.closure.specs.Sheets.{cells, Closed}
use Rattle.clauses.specs.Ranks.{reads}
use Rattle.clauses.specs.Uncovered.{uncovered_by, uncovered_in}
use Rattle.clauses.proofs.Agreeing.{at_same}
use Rattle.clauses.proofs.Passing.{refusals_are}
use Rattle.clauses.proofs.Reading.{reads_closed}

-- a row that is read from a closure
pub closure_read : (M : Machine) (w : List ℕ) (n p t : ℕ) → n ≡ M.size → Closed M w → p < M.size → (ltb t n && reads w n p t) ≡ (ltb t M.size && tau_reaches M p t)
closure_read M w n p t e s h =
    ap (λ (x : ℕ). ltb t x && reads w n p t) e
    ∙ ⊎_elim
    (λ (l : t < M.size). ap (λ (b : Bool). ltb t M.size && b) (reads_closed M w n p t e s h l))
    (λ (l : M.size ≤ t). and_left (ltb t M.size) _ (le-ltb t M.size l) ∙ sym (and_left (ltb t M.size) _ (le-ltb t M.size l)))
    (cases_lt t M.size)

-- some state moves on the label to s
pub arrives : (M : Machine) (l s : ℕ) (X : ℕ → Bool) (before : Row) → Sound M → ((v : ℕ) → v < M.size → X v ≡ eqb s v) →
    ((t : ℕ) → t < 256 → in_row before t ≡ moves_into M l X t) → some_below 256 (in_row before) ≡ some_below M.size (λ t. M.move t l s)
unfolding moves_into
arrives M l s X before sound x be =
    let small = sound.small in
    same (some_below 256 (in_row before)) (some_below M.size (λ t. M.move t l s))
    (λ e.
    let o = some_out 256 (in_row before) e in
    let t = o.0 in
    let u = some_out M.size (λ q. M.move t l q && X q) (sym (be t o.1) ∙ o.2) in
    let v = u.0 in
    let b = and_parts (M.move t l v) (X v) u.2 in
    let here : M.move t l s ≡ true = subst (λ (y : ℕ). M.move t l y ≡ true) (sym (eqb-true s v (sym (x v u.1) ∙ b.1))) b.0 in
    some_in M.size (λ t. M.move t l s) t (sound.within t l s here).from here)
    (λ e.
    let o = some_out M.size (λ t. M.move t l s) e in
    let t = o.0 in
    let k = o.1 in
    let h = (sound.within t l s o.2).to in
    some_in 256 (in_row before) t (omega arith) (be t (omega arith) ∙ some_in M.size (λ q. M.move t l q && X q) s h (and_from _ _ o.2 (x s h ∙ eq-eqb s s refl))))

-- a closure that meets no state that is not covered
pub covered_is : (M N : Machine) (p q : ℕ) (sheet : List ℕ) (own bare : ℕ → Bool) → M.size ≤ 255 → q < N.size → Closed N sheet →
    ((t : ℕ) → t < 256 → own t ≡ (ltb t M.size && tau_reaches M p t)) → ((t : ℕ) → t < 256 → bare t ≡ uncovered_in M N sheet q t) →
    not (some_below 256 (λ t. own t && bare t)) ≡ passes_refusals M N p q
unfolding uncovered_by
covered_is M N p q sheet own bare small l closed eo eb =
    let f : ℕ → Bool = λ t. tau_reaches M p t && uncovered_by M N (tau_reaches N) q t in
    let open_is : (t : ℕ) → t < 256 → bare t ≡ uncovered_by M N (tau_reaches N) q t = (λ t h.
    let by = uncovered_by M N (reads sheet N.size) q t in
    eb t h ∙ ap (λ (b : Bool). b && (leb (cells N) (length sheet) && by)) (lt-ltb q N.size l) ∙ ap (λ (b : Bool). b && by) (le-leb (cells N) (length sheet) closed.room)
    ∙ ap (λ o. stable M t && is_some o)
    (at_same M N p q (tau_reaches M) (tau_reaches M) (reads sheet N.size) (tau_reaches N) (λ _ _. true) (λ _ _. true) (λ _ _. refl) (λ v k. reads_closed N sheet N.size q v refl closed l k) (λ _ _ _ _. refl) t)) in
    ap not (same (some_below 256 (λ t. own t && bare t)) (some_below M.size f)
    (λ e.
    let o = some_out 256 (λ t. own t && bare t) e in
    let t = o.0 in
    let b = and_parts (own t) (bare t) o.2 in
    let c = and_parts (ltb t M.size) (tau_reaches M p t) (sym (eo t o.1) ∙ b.0) in
    some_in M.size f t (ltb-true t M.size c.0) (and_from _ _ c.1 (sym (open_is t o.1) ∙ b.1)))
    (λ e.
    let o = some_out M.size f e in
    let t = o.0 in
    let k = o.1 in
    let b = and_parts (tau_reaches M p t) (uncovered_by M N (tau_reaches N) q t) o.2 in
    some_in 256 (λ t. own t && bare t) t (omega arith) (and_from _ _ (eo t (omega arith) ∙ and_from _ _ (lt-ltb t M.size k) b.0) (open_is t (omega arith) ∙ b.1))))
    ∙ sym (refusals_are M N p q)
