use Rattle.std.proofs.Common.{◌∙◌, arith}
use Rattle.house.specs.Means.{means}
use Rattle.replay.proofs.Rooms.{lent_fit}
use Rattle.replay.proofs.fit_within.Goals as goal

pub returns : goal.returns
returns c =
    let e = lent_fit (means c.args.house.now) c.args.s c.args.pile c.args.room c.min-room.result c.args.workspace.now c.min-room.ensures (omega arith) in
    record { answer = c.fit.ensures.answer ∙ e; left = rw e at c.fit.ensures.house }
