use Rattle.std.proofs.Common.{◌≡◌, ℕ, List, length, ap, ◌∙◌, arith}
use Rattle.installer.specs.Texts.{text_of, put_on}
use Rattle.installer.specs.Lines.{line_of}
use Rattle.installer.specs.Outcomes.{worked_on}
use Rattle.installer.specs.Calls.{line_for}
use Rattle.installer.proofs.Decimals.{figures_are_decimals}
use Rattle.installer.proofs.Promised.{verdict_promises, too_short, enough}
use Rattle.installer.proofs.calls.verdict_line.Goals as goal

pub returns-then-line-lt-LINE_ROOM : goal.returns-then-line-lt-LINE_ROOM
returns-then-line-lt-LINE_ROOM c =
    let a = c.args.module.now in
    let b = c.args.contract.now in
    let w = c.args.workspace.now in
    let was = c.args.line.now in
    let told = line_for a b (length w) in
    let h = c.if-line-lt-LINE_ROOM.true in
    record {
      length = too_short was (length told) 0 h;
      line = too_short was (put_on told was) was h;
      workspace = too_short was (worked_on a b w) w h;
      short = omega arith;
      promises = verdict_promises a b (length w);
      decimals = figures_are_decimals;
    }

pub returns : goal.returns
returns c =
    let a = c.args.module.now in
    let b = c.args.contract.now in
    let w = c.args.workspace.now in
    let was = c.args.line.now in
    let told = line_for a b (length w) in
    let h = c.if-line-lt-LINE_ROOM.false in
    let e : text_of c.line_of.result ≡ told = c.line_of.ensures ∙ ap line_of c.outcome_of.ensures.value in
    record {
      length = c.put.ensures.length ∙ ap length e ∙ enough was (length told) 0 h;
      line = c.put.ensures.line ∙ ap (λ (xs : List ℕ). put_on xs was) e ∙ enough was (put_on told was) was h;
      workspace = c.outcome_of.ensures.workspace ∙ enough was (worked_on a b w) w h;
      short = omega (arith, c.put.ensures.length, c.line_of.result.fits);
      promises = verdict_promises a b (length w);
      decimals = figures_are_decimals;
    }
