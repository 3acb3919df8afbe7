-- No line is longer than 40 bytes.
use Rattle.std.proofs.Common.{ℕ, ◌-◌, ◌≤◌, Bool, true, false, cond, ltb, length, Some, None, codes, arith, length-append}
use Rattle.table.specs.Write.{parted, written_line}
use Rattle.clauses.specs.declared.counterexample.Counterexample.{Counterexample}
use Rattle.clauses.specs.declared.counterexample.Counterexample.TheVariants.{Move, Rest}
use Rattle.judge.specs.declared.verdict.Answer.{Answer}
use Rattle.judge.specs.declared.verdict.Answer.TheVariants.{Yes, No}
use Rattle.judge.specs.declared.verdict.Verdict.{Verdict}
use Rattle.installer.specs.declared.outcome.Refused.{Refused}
use Rattle.installer.specs.Lines.{way_field, failing_fields, answer_fields, refusal_fields}
use Rattle.installer.proofs.Decimals.{figure_short}

way_short : (l : ℕ) → length (way_field l) ≤ 1
way_short l = go (ltb l 32)
  where
    go : (b : Bool) → length (cond b (codes "?") (codes "!")) ≤ 1
    go true = omega arith
    go false = omega arith

failing_short : (x : Counterexample) → length (parted 44 (failing_fields x)) ≤ 15
failing_short (Move l p) = omega (arith, length-append {A = ℕ}, way_short l, figure_short (cond (ltb l 32) l (l - 32)), figure_short p)
failing_short (Rest None p) = omega (arith, length-append {A = ℕ}, figure_short p)
failing_short (Rest (Some l) p) = omega (arith, length-append {A = ℕ}, way_short l, figure_short (cond (ltb l 32) l (l - 32)), figure_short p)

pub answer_short : (v : Verdict) (a : Answer) → length (written_line (answer_fields v a)) ≤ 40
answer_short v Yes = simp length-append (omega (arith, figure_short v.states, figure_short v.others, figure_short v.highest, figure_short v.standing))
answer_short v (No round (Move l p)) = simp length-append (omega (arith, length-append {A = ℕ}, figure_short v.states, figure_short v.others, figure_short round, failing_short (Move l p)))
answer_short v (No round (Rest l p)) = simp length-append (omega (arith, length-append {A = ℕ}, figure_short v.states, figure_short v.others, figure_short round, failing_short (Rest l p)))

pub refusal_short : (r : Refused) → length (written_line (refusal_fields r)) ≤ 40
refusal_short r = simp length-append (omega (arith, figure_short r.number, figure_short r.text, figure_short r.line, figure_short r.field))
