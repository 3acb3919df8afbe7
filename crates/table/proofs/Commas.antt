use Rattle.std.proofs.Common.{◌≡◌, ℕ, ◌<◌, Bool, false, eqb, List, map, Bor, length, take, Option, Some, None, refl, arith}
use Rattle.std.specs.Fn.{CalledAt}
use Rattle.std.specs.Iterator.{Yields}
use Rattle.std.specs.Iterator.Adapters.{take_source, take_count, take_steps}
use Rattle.std.specs.Slice.Iter.{split_rest, split_done, split_callee, split_steps}
use Rattle.std.specs.declared.iter.Take.{Take}
use Rattle.std.specs.declared.slice.Split.{Split}
use Rattle.std.proofs.lemmas.List.{length-take}
use Rattle.std.proofs.lemmas.Iterator.{YieldsList, YieldsList-from_take}
use Rattle.std.proofs.lemmas.Iterator.Splits.{YieldsList-from_slice_split}
use Rattle.std.proofs.lemmas.Iterator.Consumers.{YieldsList-turn, YieldsList-end}
use denote.Param.Members.{Mut}
use Rattle.table.specs.Text.{pieces}

-- the first six pieces between commas, of which an iterator has given xs
module _ {F : Type 0} (g : Mut F (Bor ℕ × Unit {0}) Bool) (bs : List ℕ) (s t u : Take (Split ℕ F)) (xs : List (Bor (List ℕ))) (r : Option (Bor (List ℕ))) (yielded : Yields (take_steps (split_steps g)) s xs t) (next : take_steps (split_steps g) t r u) (rest : split_rest (take_source s) ≡ bs) (done : split_done (take_source s) ≡ false) (many : take_count s ≡ 6) (test : (x : ℕ) (b : Bool) (q : F) → CalledAt g (split_callee (take_source s)) x b q → (q ≡ split_callee (take_source s)) × (b ≡ eqb x 44)) where
  road : YieldsList (take_steps (split_steps g)) (λ x. x.now) s (take 6 (pieces 44 bs))
  road = YieldsList-from_take 6 (YieldsList-from_slice_split g (λ x. eqb x 44) bs rest done refl test) many

  -- one more has room
  pub piece_fits : (x : Bor (List ℕ)) → r ≡ Some x → length xs < 6
  piece_fits x e = omega (arith, (YieldsList-turn road xs t yielded r u x e next).0, length-take 6 (pieces 44 bs))

  -- at the end they are all given
  pub pieces_given : r ≡ None → map (λ x. x.now) xs ≡ take 6 (pieces 44 bs)
  pieces_given e = (YieldsList-end road xs t yielded r u e next).0
