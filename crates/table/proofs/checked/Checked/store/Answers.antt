use Rattle.std.proofs.Common.{sym, ◌∙◌, arith}
use Rattle.table.specs.Table.{read_text}
use Rattle.table.proofs.Stored.{summary_known}
use Rattle.table.proofs.checked.Checked.store.Goals as goal

pub fill-requires : goal.fill-requires
fill-requires c =
    let k = summary_known (read_text c.args.self.now.text.now) c.in_ok-summary.summary (sym c.args.self.now.told ∙ c.in_ok-summary.was) in
    record { sound = k.0; room = omega (arith, k.1) }
