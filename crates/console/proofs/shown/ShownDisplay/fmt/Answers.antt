use Rattle.std.proofs.Common.{rules, ◌≡◌, true, false, ℕ, List, [], ◌++◌, length, take, nat_lt, codes, cond, sym, ap, ◌∙◌}
use Rattle.std.proofs.Output.{has_written_append, has_written_of_eq}
use Rattle.std.proofs.lemmas.Bool.{cond-true, cond-false}
use Rattle.std.proofs.lemmas.List.{append-nil, flat_map_more}
use Rattle.std.proofs.lemmas.Str.{IsUtf8-past_char}
use Rattle.std.specs.Char.{encode_utf8}
use Rattle.std.specs.Iterator.Adapters.{take_source, take_count}
use Rattle.std.specs.List.{flat_map}
use Rattle.std.specs.Str.{IsUtf8, chars}
use Rattle.std.specs.Str.Iter.{chars_rest}
use Rattle.console.specs.Shown.{letter_shown}
use Rattle.console.proofs.Letters.{next_letter, last_letter, more_letters}
use Rattle.console.proofs.shown.ShownDisplay.fmt.Goals as goal

abbrev written : ℕ → List ℕ
written k = encode_utf8 (letter_shown k)

pub loop-letter-preserved : goal.loop-letter-preserved
loop-letter-preserved g c =
    let it = c.loop-letter.letter-iterator in
    let next = c.next.new.self in
    let letter = c.in-Some.letter in
    let text = chars_rest (take_source it) in
    let rest = chars_rest (take_source next) in
    let past = c.loop-letter.yielded in (
      next_letter _ past (take_count next) (take_count it) letter text rest c.loop-letter.invariant.1 c.in-Some.ensures.steps.0.0 c.in-Some.ensures.steps.1 c.loop-letter.invariant.0,
      IsUtf8-past_char text rest letter c.loop-letter.invariant.1 c.in-Some.ensures.steps.0.0,
      λ plain. has_written_of_eq _ _ _ _ _ (flat_map_more written [] past letter) (has_written_append _ _ _ _ _ _ (c.loop-letter.invariant.2 plain) (search rules)),
    )

pub returns-in_ok-write_str-clause-writes : goal.returns-in_ok-write_str-clause-writes
returns-in_ok-write_str-clause-writes g c =
    let text = c.args.self.now.0.now in
    let all = last_letter _ c.loop-letter.yielded _ _ (λ more. (c.in-None.ensures.steps more).0.0) c.loop-letter.invariant.0 in
    let utf : IsUtf8 (chars_rest c.chars-2.result) = search rules in
    let same : chars_rest c.chars-2.result ≡ text = search rules in
    let more : nat_lt 80 (length (chars text)) ≡ true = sym (ap (λ (bs : List ℕ). nat_lt 80 (length (chars bs))) same) ∙ sym (more_letters c.chars-2.result c.nth.new.self 80 c.nth.result utf c.nth.ensures.ran) ∙ sym c.if-is_some.ensures in
    let dots : cond (nat_lt 80 (length (chars text))) (codes "..") [] ≡ codes ".." = cond-true _ _ _ more in
    λ plain ok. has_written_of_eq _ _ _ _ _
    (ap (λ (zs : List ℕ). flat_map written zs ++ codes "..") all ∙ ap (λ (zs : List ℕ). flat_map written (take 80 (chars text)) ++ zs) (sym dots))
    (has_written_append _ _ _ _ _ _ (c.loop-letter.invariant.2 plain) (search rules))

pub returns-else-is_some-clause-writes : goal.returns-else-is_some-clause-writes
returns-else-is_some-clause-writes g c =
    let text = c.args.self.now.0.now in
    let all = last_letter _ c.loop-letter.yielded _ _ (λ more. (c.in-None.ensures.steps more).0.0) c.loop-letter.invariant.0 in
    let utf : IsUtf8 (chars_rest c.chars-2.result) = search rules in
    let same : chars_rest c.chars-2.result ≡ text = search rules in
    let more : nat_lt 80 (length (chars text)) ≡ false = sym (ap (λ (bs : List ℕ). nat_lt 80 (length (chars bs))) same) ∙ sym (more_letters c.chars-2.result c.nth.new.self 80 c.nth.result utf c.nth.ensures.ran) ∙ sym c.if-is_some.ensures in
    let dots : cond (nat_lt 80 (length (chars text))) (codes "..") [] ≡ [] = cond-false _ _ _ more in
    λ plain ok. has_written_of_eq _ _ _ _ _
    (ap (flat_map written) all ∙ sym (append-nil _) ∙ ap (λ (zs : List ℕ). flat_map written (take 80 (chars text)) ++ zs) (sym dots))
    (c.loop-letter.invariant.2 plain)
