use Rattle.std.proofs.Common.{ℕ, ◌^◌, Some, bit_or, ap, ◌∙◌, arith}
use Rattle.std.specs.Option.{option_map}
use Rattle.commands.proofs.Listed.{name_added}
use Rattle.commands.proofs.names.with_name_of.Goals as goal

pub returns : goal.returns
returns c =
    let names = c.args.names.0 in
    ap Some (name_added names c.with.result.0 c.in_ok-name.name (omega arith) (omega arith) c.in_ok-name.ensures.below c.with.ensures)
    ∙ ap (option_map (λ (n : ℕ). bit_or names (2 ^ n))) c.in_ok-name.ensures.value
