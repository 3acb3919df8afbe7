-- The names of a list are found by a fold.
use Rattle.std.proofs.Common.{◌≡◌, ℕ, ◌<◌, ◌^◌, Bool, ◌||◌, eqb, List, [], ◌∷◌, Option, Some, None, bit_or, refl, sym, ap, ◌∙◌, arith}
use Rattle.std.proofs.lemmas.Nat.{one_shl, or_lt, pow_pos}
use Rattle.std.specs.Option.{option_and_then, option_map}
use Rattle.lts.specs.Labels.{member}
use Rattle.labels.specs.declared.NameSet.{NameSet}
use Rattle.labels.proofs.Bits.{member_or, member_one_shl, same_members}
use Rattle.table.proofs.Folds.{folds}
use Rattle.commands.specs.Names.{with_name_of, with_names_of}

-- a set that has one member more is the number with one bit more
pub name_added : (names more n : ℕ) → names < 2 ^ 32 → more < 2 ^ 32 → n < 32 →
    ((k : ℕ) → k < 32 → member more k ≡ (member names k || eqb n k)) → more ≡ bit_or names (2 ^ n)
name_added names more n a b l f =
    let e = one_shl n 32 l in
    let s : 2 ^ n < 2 ^ 32 = omega (arith, e, pow_pos n) in
    same_members 32 more (bit_or names (2 ^ n)) b (or_lt 32 names (2 ^ n) a s)
    (λ k h. f k h ∙ sym (member_or names (2 ^ n) k ∙ ap (λ (b : Bool). member names k || b) (ap (λ (x : ℕ). member x k) (sym e) ∙ member_one_shl 32 n k l)))

-- the step of the fold
abbrev pub step : NameSet → List ℕ → Option NameSet
step s bs = option_map (λ n. record { 0 = n }) (with_name_of s.0 bs)

pub step_is : (s : NameSet) (bs : List ℕ) (r : Option NameSet) → option_map (λ (t : NameSet). t.0) r ≡ with_name_of s.0 bs → r ≡ step s bs
step_is s bs None e = ap (option_map (λ (n : ℕ). record { 0 = n })) e
step_is s bs (Some t) e = ap (option_map (λ (n : ℕ). record { 0 = n })) e

pub names_fold : (s : NameSet) (ps : List (List ℕ)) → option_map (λ (t : NameSet). t.0) (folds step s ps) ≡ with_names_of s.0 ps
names_fold s [] = refl
names_fold s (p ∷ ps) =
    elim (with_name_of s.0 p) as (λ o. option_map (λ (t : NameSet). t.0) (option_and_then (λ (c : NameSet). folds step c ps) (option_map (λ n. record { 0 = n }) o)) ≡ option_and_then (λ more. with_names_of more ps) o) [ None ↦ refl | Some more ↦ names_fold (record { 0 = more }) ps ]
