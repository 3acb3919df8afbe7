-- A dense machine is sound.
use Rattle.std.specs.Prelude.{ℕ, ◌<◌, ◌≤◌, ◌&&◌, List, nat_le, nat_lt}
use Rattle.std.proofs.Common.{arith}
use Rattle.std.proofs.lemmas.Bool.{and_parts, ltb-true, leb-true, cond_both}
use Rattle.lts.specs.Machines.{Sound}
use Rattle.lts.specs.Soundness.{start_within}
use Rattle.source.specs.Tables.{table_size, in_range}
use Rattle.dense.specs.declared.machine.Dense.{Dense}
use Rattle.dense.specs.declared.row.Row.{Row}
use Rattle.dense.specs.Rows.{in_row}
use Rattle.dense.specs.Copies.{row_at, dense_machine, meaning}

pub dense_sound : (states start : ℕ) (rows : List (List Row)) → Sound (dense_machine states start rows)
dense_sound states start rows =
    let n = table_size states start in
    let bound : (n ≤ 255) × (1 ≤ n → start < n) =
    cond_both (nat_lt start states && nat_le states 255) states 0 (λ x. (x ≤ 255) × (1 ≤ x → start < x))
    (λ e.
    let b = and_parts (nat_lt start states) (nat_le states 255) e in
    (leb-true states 255 b.1, λ h. ltb-true start states b.0))
    (λ e. (omega arith, λ h. absurd (omega arith)))
    in
    record {
      small = bound.0;
      begins = start_within n start bound.1;
      within = λ p l q e.
          let r = (and_parts (in_range n p l q) (in_row (row_at rows p l) q) e).0 in
          let a = and_parts (nat_lt p n) (nat_lt q n && nat_le l 64) r in
          let b = and_parts (nat_lt q n) (nat_le l 64) a.1 in
          record { from = ltb-true p n a.0; label = leb-true l 64 b.1; to = ltb-true q n b.0 };
    }

pub meaning_sound : (d : Dense) → Sound (meaning d)
meaning_sound d = dense_sound d.extent.states d.extent.start d.rows
