use Rattle.std.proofs.Common.{length, ap, arith}
use Rattle.house.proofs.Tables.{tables_count}
use Rattle.house.proofs.house.House.table_at.Goals as goal

pub bounds-deref-c : goal.bounds-deref-c
bounds-deref-c c = omega (arith, ap length c.deref.ensures.0, tables_count c.args.self.now)
