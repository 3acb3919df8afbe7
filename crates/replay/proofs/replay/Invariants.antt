use Rattle.std.proofs.Common.{◌≡◌, reverse, length, take}
use Rattle.calls.specs.Histories.{Leaves, replies}
use Rattle.calls.specs.Requests.{calls_of, written_over}
use Rattle.house.specs.Means.{means}
use Rattle.replay.proofs.replay.Given as goal

abbrev pub invariant-loop-i : goal.invariant-loop-i
invariant-loop-i g l =
    Leaves (calls_of (take l.i l.requests)) (means l.house)
    × (length l.workspace ≡ 260100)
    × (l.answers ≡ written_over (reverse (replies (calls_of (take l.i l.requests)))) l.initial.answers)
