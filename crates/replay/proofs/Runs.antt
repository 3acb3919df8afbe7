-- One call more.
use Rattle.std.proofs.Common.{◌≡◌, ℕ, suc, ◌+◌, ◌<◌, ◌≤◌, ◌⊎◌, List, [], ◌∷◌, ◌++◌, map, reverse, length, get_or, take, set, Result, Bor, sym, refl, ap, ◌∙◌, ⊎_elim, arith}
use Rattle.std.proofs.lemmas.List.{map_more, reverse-append, length-reverse, length-map, length-take-le, set_past}
use Rattle.calls.specs.declared.request.Request.{Request}
use Rattle.calls.specs.declared.refusal.Refusal.{Refusal}
use Rattle.calls.specs.declared.request.Reply.{Reply}
use Rattle.calls.specs.Contents.{Contents}
use Rattle.calls.specs.Calls.{Call, reply}
use Rattle.calls.specs.Histories.{left_by, taken_of, replies, Leaves}
use Rattle.calls.specs.Requests.{call_of, calls_of, written_over}
use Rattle.calls.proofs.Histories.{leaves_left}

pub calls_more : (rs : List (Request (Bor (List ℕ)))) (i : ℕ) (d : Request (Bor (List ℕ))) → i < length rs → calls_of (take (i + 1) rs) ≡ call_of (get_or rs i d) ∷ calls_of (take i rs)
calls_more rs i d l = ap reverse (map_more call_of rs i d l) ∙ reverse-append (map call_of (take i rs)) (call_of (get_or rs i d) ∷ [])

replies_length : (calls : List Call) → length (replies calls) ≡ length calls
unfolding replies
replies_length [] = refl
replies_length (c ∷ past) = ap suc (replies_length past)

replies_more : (c : Call) (past : List Call) → reverse (replies (c ∷ past)) ≡ reverse (replies past) ++ (reply (left_by (taken_of past)) c ∷ [])
unfolding replies
replies_more c past = reverse-append (reply (left_by (taken_of past)) c ∷ []) (replies past)

replies_count : (rs : List (Request (Bor (List ℕ)))) (i : ℕ) → i ≤ length rs → length (reverse (replies (calls_of (take i rs)))) ≡ i
replies_count rs i l =
    length-reverse (replies (calls_of (take i rs))) ∙ replies_length (calls_of (take i rs)) ∙ length-reverse (map call_of (take i rs))
    ∙ length-map (take i rs) call_of ∙ length-take-le i rs l

-- before the first call
pub no_replies : (was : List (Result Reply Refusal)) → was ≡ written_over (reverse (replies [])) was
unfolding replies
no_replies was = refl

-- one place more is written over
written_more : {X : Type 0} (xs was : List X) (x : X) → written_over (xs ++ x ∷ []) was ≡ set (written_over xs was) (length xs) x
written_more {X} [] [] x = refl
written_more {X} [] (y ∷ ys) x = refl
written_more {X} (z ∷ zs) [] x = refl
written_more {X} (z ∷ zs) (y ∷ ys) x = ap (λ (t : List X). z ∷ t) (written_more zs ys x)

-- what is written at i, if there is a place for it
abbrev pub Written : List (Result Reply Refusal) → ℕ → Result Reply Refusal → List (Result Reply Refusal) → Type 0
Written old i x new = (new ≡ set old i x) ⊎ ((length old ≤ i) × (new ≡ old))

pub answers_more : (rs : List (Request (Bor (List ℕ)))) (i : ℕ) (d : Request (Bor (List ℕ))) {H : Contents} (x : Result Reply Refusal) (was old new : List (Result Reply Refusal)) → i < length rs →
    Leaves (calls_of (take i rs)) H → x ≡ reply H (call_of (get_or rs i d)) → Written old i x new →
    old ≡ written_over (reverse (replies (calls_of (take i rs)))) was → new ≡ written_over (reverse (replies (calls_of (take (i + 1) rs)))) was
answers_more rs i d {H} x was old new l v e w o =
    let R = reverse (replies (calls_of (take i rs))) in
    let same : x ≡ reply (left_by (taken_of (calls_of (take i rs)))) (call_of (get_or rs i d)) =
    e ∙ ap (λ (K : Contents). reply K (call_of (get_or rs i d))) (leaves_left v) in
    let longer : reverse (replies (calls_of (take (i + 1) rs))) ≡ R ++ (x ∷ []) =
    ap (λ (cs : List Call). reverse (replies cs)) (calls_more rs i d l) ∙ replies_more (call_of (get_or rs i d)) (calls_of (take i rs))
    ∙ ap (λ (y : Result Reply Refusal). R ++ (y ∷ [])) (sym same) in
    let n : length R ≡ i = replies_count rs i (omega arith) in
    let wanted : set old i x ≡ written_over (reverse (replies (calls_of (take (i + 1) rs)))) was =
    ap (λ (ys : List (Result Reply Refusal)). set ys i x) o ∙ ap (λ (j : ℕ). set (written_over R was) j x) (sym n) ∙ sym (written_more R was x)
    ∙ ap (λ (ys : List (Result Reply Refusal)). written_over ys was) (sym longer) in
    ⊎_elim
    (λ (u : new ≡ set old i x). u ∙ wanted)
    (λ (u : (length old ≤ i) × (new ≡ old)). u.1 ∙ sym (set_past old i x u.0) ∙ wanted)
    w
