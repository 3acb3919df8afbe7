use Rattle.std.proofs.Common.{◌≡◌, ℕ, ◌<◌, ◌≤◌, false}
use Rattle.lts.specs.Labels.{member}
use Rattle.labels.proofs.LabelSet.of.Given as goal

abbrev pub invariant-loop-label : goal.invariant-loop-label
invariant-loop-label g l =
    ((k : ℕ) → k < l.label → goal.F-post g l.f k (member l.found.0 k)) × ((k : ℕ) → l.label ≤ k → k < 64 → member l.found.0 k ≡ false)
