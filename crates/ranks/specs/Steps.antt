-- A round by rows of bits: the pairs that stand, as a row of the contract's states for each state of the module.
use Rattle.std.specs.Prelude.{◌≡◌, ℕ, ◌<◌, Bool, not, ◌&&◌, List, get_or, nat_lt, slice_index_or}
use Rattle.lts.specs.Labels.{member}
use Rattle.lts.specs.Machines.{Machine, some_below, each_below, implies, tau_reaches, weak_step}
use Rattle.lts.specs.Conformance.{passes_refusals}
use Rattle.labels.specs.declared.LabelSet.{LabelSet}
use Rattle.dense.specs.declared.row.Row.{Row}
use Rattle.dense.specs.Rows.{in_row, none}

abbrev pub in_rows : List Row → ℕ → ℕ → Bool
in_rows rows p q = in_row (slice_index_or rows p none) q

-- a pair of the rows that is not of the other rows
abbrev pub lost : List Row → List Row → ℕ → ℕ → Bool
lost rows others p q = in_rows rows p q && not (in_rows others p q)

-- p weak-steps on the label to some state of the set
unfoldable pub steps_into : Machine → (ℕ → Bool) → ℕ → ℕ → Bool
steps_into M X l p = some_below M.size (λ v. weak_step M p l v && X v)

-- if p weak-steps on the label to p', so does q to some state that S holds with p'
unfoldable pub answered : Machine → Machine → (ℕ → ℕ → Bool) → ℕ → ℕ → ℕ → ℕ → Bool
answered M N S p q p' l = implies (weak_step M p l p') (steps_into N (S p') l q)

-- on every label
abbrev pub all_answered : Machine → Machine → (ℕ → ℕ → Bool) → ℕ → ℕ → ℕ → Bool
all_answered M N S p q p' = each_below 64 (answered M N S p q p')

-- the tau closure as rows
abbrev pub ClosureRows : Machine → List Row → Type 0
ClosureRows M rows = (p t : ℕ) → p < M.size → t < 256 → in_rows rows p t ≡ (nat_lt t M.size && tau_reaches M p t)

abbrev pub no_labels : LabelSet
no_labels = record { 0 = 0 }

-- the labels on the moves into each state
abbrev pub Arriving : Machine → List LabelSet → Type 0
Arriving M labels = (p l : ℕ) → p < M.size → l < 64 → member (get_or labels p no_labels).0 l ≡ some_below M.size (λ t. M.move t l p)

-- the pairs that pass the second clause
abbrev pub Covers : Machine → Machine → List Row → Type 0
Covers M N rows = (p q : ℕ) → p < M.size → q < N.size → in_rows rows p q ≡ passes_refusals M N p q
