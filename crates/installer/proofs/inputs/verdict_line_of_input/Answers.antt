use Rattle.std.proofs.Common.{◌≡◌, ℕ, List, length, take, drop, ap, ◌∙◌, arith}
use Rattle.std.proofs.lemmas.List.{drop-drop}
use Rattle.installer.specs.Texts.{text_of, put_on}
use Rattle.installer.specs.Inputs.{gap, first_text, second_text}
use Rattle.installer.specs.Lines.{line_of}
use Rattle.installer.specs.Outcomes.{worked_on}
use Rattle.installer.specs.Calls.{with_room, length_told, line_after, line_for, line_for_input, worked_on_input, too_long}
use Rattle.installer.proofs.Computed.{worked_cases}
use Rattle.installer.proofs.Gaps.{first_gap}
use Rattle.installer.proofs.Promised.{verdict_promises, too_short, enough, over_long, line_of_parts, workspace_of_parts}
use Rattle.installer.proofs.inputs.verdict_line_of_input.Goals as goal

pub returns-then-line-lt-LINE_ROOM : goal.returns-then-line-lt-LINE_ROOM
returns-then-line-lt-LINE_ROOM c =
    let input = c.args.input.now in
    let w = c.args.workspace.now in
    let was = c.args.line.now in
    let told = line_for_input input (length w) in
    let h = c.if-line-lt-LINE_ROOM.true in
    record {
      length = too_short was (length told) 0 h;
      line = too_short was (put_on told was) was h;
      workspace = too_short was (worked_on_input input w) w h;
      short = omega arith;
      parts = first_gap input;
      promises = verdict_promises (first_text input) (second_text input) (length w);
      worked = worked_cases;
    }

pub returns-then-input-gt-LONGEST : goal.returns-then-input-gt-LONGEST
returns-then-input-gt-LONGEST c =
    let input = c.args.input.now in
    let w = c.args.workspace.now in
    let was = c.args.line.now in
    let told = line_for_input input (length w) in
    let h = c.if-line-lt-LINE_ROOM.false in
    let l = c.if-input-gt-LONGEST.true in
    let e : text_of c.line_of.result ≡ told =
    c.line_of.ensures ∙ over_long input (line_for (first_text input) (second_text input) (length w)) (line_of too_long) l in
    record {
      length = c.put.ensures.length ∙ ap length e ∙ enough was (length told) 0 h;
      line = c.put.ensures.line ∙ ap (λ (xs : List ℕ). put_on xs was) e ∙ enough was (put_on told was) was h;
      workspace = over_long input (worked_on (first_text input) (second_text input) w) w l ∙ enough was (worked_on_input input w) w h;
      short = omega (arith, c.put.ensures.length, c.line_of.result.fits);
      parts = first_gap input;
      promises = verdict_promises (first_text input) (second_text input) (length w);
      worked = worked_cases;
    }

pub returns : goal.returns
returns c =
    let input = c.args.input.now in
    let w = c.args.workspace.now in
    let was = c.args.line.now in
    let a = c.split_at.result.0.now in
    let b = c.behind.result.now in
    let g = c.empty_line.ensures.value in
    let ea : a ≡ first_text input = c.split_at.ensures.front ∙ ap (λ (n : ℕ). take n input) g in
    let eb : b ≡ second_text input =
    c.behind.ensures ∙ ap (drop 1) (c.split_at.ensures.back ∙ ap (λ (n : ℕ). drop n input) g) ∙ drop-drop 1 (gap input) input in
    let s = c.if-input-gt-LONGEST.false in
    let e = line_of_parts input a b w was ea eb s in
    record {
      length = c.verdict_line.ensures.length ∙ ap (λ (xs : List ℕ). length_told xs was) e;
      line = c.verdict_line.ensures.line ∙ ap (λ (xs : List ℕ). line_after xs was) e;
      workspace = c.verdict_line.ensures.workspace ∙ ap (λ (xs : List ℕ). with_room was xs w) (workspace_of_parts input a b w was ea eb s);
      short = c.verdict_line.ensures.short;
      parts = first_gap input;
      promises = verdict_promises (first_text input) (second_text input) (length w);
      worked = worked_cases;
    }
