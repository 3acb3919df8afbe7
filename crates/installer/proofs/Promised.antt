-- What the two calls promise.
use Rattle.std.proofs.Common.{◌≡◌, ℕ, ◌<◌, ◌≤◌, ltb, List, [], length, Ok, Err, Result, sym, refl, ap, ◌∙◌, arith}
use Rattle.std.proofs.lemmas.Bool.{cond-true, cond-false, lt-ltb, le-ltb}
use Rattle.lts.specs.Machines.{Sound}
use Rattle.source.specs.Sounds.{table_sound}
use Rattle.table.specs.declared.fault.Fault.{Fault}
use Rattle.table.specs.Table.{Listing, read_text}
use Rattle.judge.specs.declared.verdict.Verdict.{Verdict}
use Rattle.judge.specs.Verdicts.{verdict, judged}
use Rattle.source.specs.declared.refusal.Refusal.{Refusal}
use Rattle.table.specs.declared.checked.Summary.{Summary}
use Rattle.table.specs.Fault as fault
use Rattle.judge.proofs.Refused.{accepts}
use Rattle.judge.proofs.Promised.{largest_relation, context_keeps_yes}
use Rattle.judge.proofs.Truth.{counterexample_fails}
use Rattle.installer.specs.Inputs.{first_text, second_text}
use Rattle.installer.specs.Lines.{line_of, SmallVerdict, Small}
use Rattle.installer.specs.Outcomes.{entered, machine_by, machine_of, told, outcome_by, outcome, worked_on, TellsConformance}
use Rattle.installer.specs.Calls.{with_room, if_short, too_long, line_for, line_for_input, worked_on_input, VerdictPromises}
use Rattle.installer.proofs.Entered.{tables_fit, entered_small}
use Rattle.installer.proofs.Bounds.{small_verdict}

sound_by : (r : Result Listing Fault) → Sound (machine_by r)
sound_by (Ok t) = table_sound t.states t.start t.moves
sound_by (Err f) = table_sound 0 0 []

-- two tables that are judged
tells_conformance : (a b : List ℕ) (room : ℕ) → TellsConformance a b room
tells_conformance a b room s t d e h =
    let M = machine_of a in
    let N = machine_of b in
    let f = tables_fit a s d in
    let g = tables_fit b t e in (
      verdict M N,
      rw (d, e) (ap told (accepts M N f g room (verdict M N) h)),
      (largest_relation M N (sound_by (read_text a)) (sound_by (read_text b)) f g (λ p q. Unit {0})).conforming,
    )

-- the numbers of what comes of two texts are small
outcome_small : (a b : List ℕ) (room : ℕ) → Small (outcome a b room)
outcome_small a b room = go (entered a) (entered b) (judged (machine_of a) (machine_of b) room) (λ f e. entered_small a f e) (λ f e. entered_small b f e)
    (λ v e. small_verdict (machine_of a) (machine_of b) (sound_by (read_text a)) (sound_by (read_text b)) room v e)
  where
    go : (x y : Result Summary Fault) (z : Result Verdict Refusal) → ((f : Fault) → Err f ≡ x → fault.line_of f < 65536) → ((f : Fault) → Err f ≡ y → fault.line_of f < 65536) →
        ((v : Verdict) → Ok v ≡ z → SmallVerdict v) → Small (outcome_by x y z)
    go (Err f) y z p q r = p f refl
    go (Ok s) (Err f) z p q r = q f refl
    go (Ok s) (Ok t) (Ok v) p q r = r v refl
    go (Ok s) (Ok t) (Err e) p q r = omega arith

pub verdict_promises : (a b : List ℕ) (room : ℕ) → VerdictPromises a b room
verdict_promises a b room =
    let M = machine_of a in
    let N = machine_of b in
    let s = sound_by (read_text a) in
    let u = sound_by (read_text b) in
    record {
      conformance = tells_conformance a b room;
      small = outcome_small a b room;
      largest = λ f g. largest_relation M N s u f g (λ p q. Unit {0});
      contexts = context_keeps_yes M N room s u;
      counterexample = counterexample_fails M N s u;
      actual_fits = tables_fit a;
      promised_fits = tables_fit b;
    }

-- a line buffer that is too short, and one that is not
pub too_short : {A : Type 0} (was : List ℕ) (x y : A) → length was < 40 → y ≡ with_room was x y
too_short was x y h = sym (cond-true (ltb (length was) 40) y x (lt-ltb (length was) 40 h))

pub enough : {A : Type 0} (was : List ℕ) (x y : A) → 40 ≤ length was → x ≡ with_room was x y
enough was x y h = sym (cond-false (ltb (length was) 40) y x (le-ltb (length was) 40 h))

-- an input that is too long, and one that is not
pub over_long : {A : Type 0} (input : List ℕ) (x y : A) → 40960 < length input → y ≡ if_short input x y
over_long input x y h = sym (cond-true (ltb 40960 (length input)) y x (lt-ltb 40960 (length input) h))

pub not_long : {A : Type 0} (input : List ℕ) (x y : A) → length input ≤ 40960 → x ≡ if_short input x y
not_long input x y h = sym (cond-false (ltb 40960 (length input)) y x (le-ltb 40960 (length input) h))

-- what the first call says of the parts of an input is what the second says of the input
module _ (input a b w was : List ℕ) (ea : a ≡ first_text input) (eb : b ≡ second_text input) (short : length input ≤ 40960) where
  pub line_of_parts : line_for a b (length w) ≡ line_for_input input (length w)
  line_of_parts =
      ap (λ (x : List ℕ). line_for x b (length w)) ea ∙ ap (λ (y : List ℕ). line_for (first_text input) y (length w)) eb
      ∙ not_long input (line_for (first_text input) (second_text input) (length w)) (line_of too_long) short

  pub workspace_of_parts : worked_on a b w ≡ worked_on_input input w
  workspace_of_parts =
      ap (λ (x : List ℕ). worked_on x b w) ea ∙ ap (λ (y : List ℕ). worked_on (first_text input) y w) eb
      ∙ not_long input (worked_on (first_text input) (second_text input) w) w short
