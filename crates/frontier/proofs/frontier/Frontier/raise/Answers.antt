use Rattle.frontier.proofs.Sides.{fewer_far}
use Rattle.frontier.proofs.frontier.Frontier.raise.Goals as goal

pub loop-place-smaller : goal.loop-place-smaller
loop-place-smaller c = fewer_far c.move_place.ensures c.in-Some.ensures
