-- The numbers in a line are small: a line of a text is no further down than the text is long, and a state is one of the machine's.
use Rattle.std.proofs.Common.{◌≡◌, ℕ, ◌+◌, ◌<◌, ◌≤◌, List, [], ◌∷◌, ◌++◌, length, Some, None, Ok, Err, sym, refl, ap, ⊎_elim, arith, length-append}
use Rattle.std.specs.List.{flat_map}
use Rattle.lts.specs.Machines.{Machine, Sound, Fits}
use Rattle.lts.proofs.Proper.{Proper, proper}
use Rattle.lts.proofs.Readings.{reaches_in}
use Rattle.source.specs.declared.table.Move.{Move}
use Rattle.table.specs.declared.fault.Fault.{Fault}
use Rattle.table.specs.Fault.{line_of}
use Rattle.table.specs.Table.{Listing, read_text}
use Rattle.table.specs.Write.{parted, written_line, move_fields, head_fields, write}
use Rattle.table.specs.Faults.{HeadFault, MoveFault, Faulty}
use Rattle.table.proofs.Blamed.{refuses_the_first_fault}
use Rattle.clauses.specs.declared.counterexample.Counterexample.{Counterexample}
use Rattle.clauses.specs.declared.counterexample.Counterexample.TheVariants as counterexample
use Rattle.ranks.specs.Rounds.{stands, ranks_after}
use Rattle.judge.specs.declared.verdict.Answer.{Answer}
use Rattle.judge.specs.declared.verdict.Answer.TheVariants.{Yes, No}
use Rattle.judge.specs.declared.verdict.Verdict.{Verdict}
use Rattle.judge.specs.Verdicts.{answer, verdict, judged}
use Rattle.judge.specs.Promises.{Fails}
use Rattle.judge.proofs.Refused.{accepted}
use Rattle.judge.proofs.Truth.{counterexample_fails}
use Rattle.installer.specs.Lines.{state_of, SmallAnswer, SmallVerdict}

-- a text has at least as many bytes as lines
rows_long : (ms : List Move) → length ms ≤ length (flat_map (λ m. written_line (move_fields m)) ms)
rows_long [] = omega arith
rows_long (m ∷ ms) =
    let f : Move → List ℕ = λ x. written_line (move_fields x) in
    omega (arith, rows_long ms, length-append (f m) (flat_map f ms), length-append (parted 44 (move_fields m)) (10 ∷ []))

listing_long : (t : Listing) (rest : List ℕ) → length t.moves ≤ length (write t ++ rest)
listing_long t rest =
    let head = written_line (head_fields t.states t.start) in
    let rows = flat_map (λ m. written_line (move_fields m)) t.moves in
    omega (arith, rows_long t.moves, length-append (head ++ rows) rest, length-append head rows)

move_fault_line : (n k : ℕ) (fs : List (List ℕ)) (f : Fault) → MoveFault n k fs f → line_of f ≡ k
move_fault_line n k fs f (MoveFault.shape a) = refl
move_fault_line n k fs f (MoveFault.from a b) = refl
move_fault_line n k fs f (MoveFault.way a b d) = refl
move_fault_line n k fs f (MoveFault.name a b d e g) = refl
move_fault_line n k fs f (MoveFault.silent a b d e) = refl
move_fault_line n k fs f (MoveFault.to a b d e g) = refl

head_fault_line : (fs : List (List ℕ)) (f : Fault) → HeadFault fs f → line_of f ≡ 1
head_fault_line fs f (HeadFault.shape a) = refl
head_fault_line fs f (HeadFault.states a b) = refl
head_fault_line fs f (HeadFault.start a b d e) = refl

faulty_line : (text : List ℕ) (f : Fault) → Faulty text f → line_of f ≤ 2 + length text
faulty_line text f (Faulty.no_line a) = omega arith
faulty_line text f (Faulty.in_head l r g e h m) = omega (arith, head_fault_line _ g m)
faulty_line text f (Faulty.no_end t r w e s h) = omega (arith, ap length e, listing_long t r)
faulty_line text f (Faulty.in_move t l r g w e h m) = omega (arith, ap length e, listing_long t (l ++ 10 ∷ r), move_fault_line _ _ _ g m)

pub read_line_small : (text : List ℕ) (f : Fault) → read_text text ≡ Err f → line_of f < 65536
read_line_small text f e = ⊎_elim
    (λ p. omega (arith, ap line_of p.1))
    (λ p. omega (arith, faulty_line text f p.1, p.0))
    ((refuses_the_first_fault text f).0 e)

-- the state that a counterexample names is one of the module's
state_in : (M N : Machine) → Proper M → (k : ℕ) (x : Counterexample) → Fails M N (stands N (ranks_after M N k)) M.start N.start x → state_of x < M.size
state_in M N m k (counterexample.Move l p) h = m.to_in h.1.0 l p h.1.2
state_in M N m k (counterexample.Rest None p) h = reaches_in M m h.0 m.start_in
state_in M N m k (counterexample.Rest (Some l) p) h = reaches_in M m h.1 m.start_in

small_answer : (M N : Machine) → Sound M → Sound N → Fits M → Fits N → (a : Answer) → answer M N ≡ a → SmallAnswer a
small_answer M N s u f g Yes e = tt
small_answer M N s u f g (No round x) e =
    let r = counterexample_fails M N s u f g round x e in
    omega (arith, state_in M N (proper M s f) r.0 x r.2, s.small)

pub small_verdict : (M N : Machine) → Sound M → Sound N → (room : ℕ) (v : Verdict) → Ok v ≡ judged M N room → SmallVerdict v
small_verdict M N s u room v e =
    let a = accepted M N room (verdict M N) v e in
    let same = a.value in (
      omega (arith, ap (λ (x : Verdict). x.states) same, s.small),
      omega (arith, ap (λ (x : Verdict). x.others) same, u.small),
      small_answer M N s u a.some a.more v.answer (sym (ap (λ (x : Verdict). x.answer) same)),
    )
