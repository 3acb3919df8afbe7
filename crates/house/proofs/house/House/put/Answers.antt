use Rattle.std.proofs.Common.{◌≡◌, true, ◌∙◌, length-set}
use Rattle.std.proofs.lemmas.List.Elements.{All-set}
use Rattle.house.specs.Stored.{seat_in}
use Rattle.house.specs.Means.{means}
use Rattle.house.proofs.house.House.put.Goals as goal

pub invariant_of-self : goal.invariant_of-self
invariant_of-self c =
    let h = c.args.self.now in
    record {
      wide = (h.wide.0, length-set _ _ _ ∙ h.wide.1);
      few = h.few;
      within = (h.within.0, All-set (λ x. seat_in (means h).tables x ≡ true) h.seats _ _ c.requires.1 h.within.1, h.within.2);
    }
