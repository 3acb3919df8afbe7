use Rattle.std.proofs.Common.{rules}
use Rattle.ranks.proofs.covers.cover_row.Goals as goal

pub returns : goal.returns
returns c = c.of.ensures.by_test _ (λ q b h l e. search rules)
