use Rattle.std.proofs.Common.{arith}
use Rattle.frontier.proofs.Seated.{seat_all}
use Rattle.frontier.proofs.frontier.Frontier.start.Goals as goal

pub loop-place-preserved : goal.loop-place-preserved
loop-place-preserved c = c.seat_place.ensures _ _ c.loop-place.invariant

pub returns : goal.returns
returns c = seat_all c.least_hope-cover.result c.least_hope-cover.ensures c.requires.ordered c.requires.small (omega arith) c.loop-place.invariant
