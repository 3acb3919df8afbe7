-- The numbers of the refusals of what works on sources.
use Rattle.std.specs.Prelude.{ℕ}
use Rattle.source.specs.declared.refusal.Refusal.{Refusal}
use Rattle.source.specs.declared.refusal.Refusal.TheVariants.{TooLarge, TooShort}

abbrev pub number : Refusal → ℕ
number TooLarge = 10
number TooShort = 11
