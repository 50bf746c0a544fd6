use Rattle.frontier.proofs.Sides.{fewer_near}
use Rattle.frontier.proofs.frontier.Frontier.drop_far.Goals as goal

pub loop-place-smaller : goal.loop-place-smaller
loop-place-smaller c = fewer_near c.move_place.ensures c.in-Some.ensures.0
