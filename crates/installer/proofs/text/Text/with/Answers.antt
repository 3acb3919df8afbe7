use Rattle.std.proofs.Common.{◌≡◌, ℕ, ◌≤◌, List, [], ◌∷◌, ◌++◌, length, take, Result, Ok, Err, OnOk, OnErr, sym, ap, ◌∙◌, arith}
use Rattle.std.proofs.lemmas.List.{take_all, take-append-le}
use Rattle.installer.proofs.text.Text.with.Goals as goal

-- with the byte where there was room for it, and without it where there was none
one_more : {E P : Type 0} (r : Result (Unit {0}) E) (was now : List ℕ) (b : ℕ) → (P → now ≡ was) → length now ≤ 40 →
    OnOk r (now ≡ was ++ b ∷ []) → OnErr r P → OnErr r (length was ≡ 40) → now ≡ take 40 (was ++ b ∷ [])
one_more (Ok u) was now b left l e p full = e ∙ sym (take_all 40 (was ++ b ∷ []) (omega (arith, l, ap length e)))
one_more (Err x) was now b left l e p full = left p ∙ sym (take-append-le 40 was (b ∷ []) (omega (arith, full)) ∙ take_all 40 was (omega (arith, full)))

pub returns : goal.returns
returns c =
    let l : length c.try_push.new.self.items ≤ 40 = omega arith in
    one_more c.try_push.result c.args.self.bytes.items c.try_push.new.self.items c.args.byte (λ e. ap (λ v. v.items) e) l c.try_push.ensures.ok c.try_push.ensures.err c.try_push.ensures.full
