use Rattle.std.proofs.Common.{arith}
use Rattle.dense.proofs.Copied.{copy_is, none_copied}
use Rattle.dense.proofs.machine.Dense.copy.Goals as goal

pub returns-in-None : goal.returns-in-None
returns-in-None g c =
    none_copied (g.S.Source.means c.args.source.now) c.default-self.result c.args.self.now.rows c.default-self.ensures (g.S.Source.sound c.args.source.now) c.in-None.ensures

pub returns-in-Some : goal.returns-in-Some
returns-in-Some g c =
    let told = c.in-Some.ensures in
    copy_is (g.S.Source.means c.args.source.now) c.in-Some.n c.start.result c.copy_rows.new.rows (g.S.Source.sound c.args.source.now) told.0 c.start.ensures
    (omega arith) (λ p l q h b i. (c.copy_rows.ensures p l h b).told q i)
