use Rattle.std.proofs.Common.{◌≡◌, ℕ, List, reverse, take, Bor, sym, refl, ap, ◌∙◌, subst, inl, inr}
use Rattle.std.proofs.lemmas.List.{take_all}
use Rattle.calls.specs.Contents.{Contents}
use Rattle.calls.specs.Calls.{Call}
use Rattle.calls.specs.Histories.{Leaves, nothing, replies}
use Rattle.calls.specs.Promises.{StuckOnlyWhereContractsCan}
use Rattle.calls.specs.Requests.{calls_of, written_over}
use Rattle.house.specs.Means.{means}
use Rattle.calls.specs.declared.request.Request.{Request}
use Rattle.calls.proofs.Taking.{goes_on}
use Rattle.house.proofs.Lawful.{house_keeps}
use Rattle.calls.proofs.Histories.{leaves_left}
use Rattle.replay.proofs.Runs.{calls_more, no_replies, Written, answers_more}
use Rattle.replay.proofs.replay.Goals as goal
use Rattle.replay.proofs.replay.Goals.{then-i-answers, else-i-answers}

pub loop-i-init : goal.loop-i-init
loop-i-init g c = (
  subst (λ (H : Contents). Leaves (calls_of (take 0 c.args.requests.now)) H) (sym c.new-house.ensures) nothing,
  refl,
  no_replies c.args.answers.now,
)

pub loop-i-preserved : goal.loop-i-preserved
loop-i-preserved g c =
    let rs = c.args.requests.now in
    let i = c.loop-i.i in
    let w : Written c.loop-i.answers i c.make-answer.result c.if-i-answers.answers =
    elim c.if-i-answers.branch [
      | then-i-answers w ↦ inl w.answers-is
      | else-i-answers w ↦ inr (w.if-i-answers.false, w.answers-is)
    ] in (
      subst (λ (cs : List Call). Leaves cs (means c.make-answer.new.house)) (sym (calls_more rs i _ c.loop-i-test.true))
          (goes_on (means c.loop-i.house) _ (means c.make-answer.new.house) c.make-answer.ensures.left (calls_of (take i rs)) c.loop-i.invariant.0),
      c.make-answer.array_long,
      answers_more rs i _ c.make-answer.result c.args.answers.now c.loop-i.answers c.if-i-answers.answers
          c.loop-i-test.true c.loop-i.invariant.0 c.make-answer.ensures.answer w c.loop-i.invariant.2,
    )

pub returns : goal.returns
returns g c =
    let rs = c.args.requests.now in
    let e : take c.loop-i.i rs ≡ rs = take_all c.loop-i.i rs c.loop-i-test.false in
    let l : Leaves (calls_of rs) (means c.loop-i.house) =
    subst (λ (xs : List (Request (Bor (List ℕ)))). Leaves (calls_of xs) (means c.loop-i.house)) e c.loop-i.invariant.0 in
    record {
      run = l;
      house = leaves_left l;
      answers = c.loop-i.invariant.2 ∙ ap (λ (xs : List (Request (Bor (List ℕ)))). written_over (reverse (replies (calls_of xs))) c.args.answers.now) e;
      promise = subst (λ (H : Contents). StuckOnlyWhereContractsCan g.E.System.system H) (leaves_left l) (house_keeps g.E.System.system c.loop-i.house);
    }
