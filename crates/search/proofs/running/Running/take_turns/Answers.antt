use Rattle.search.proofs.Turning.{can_expand, turning_more, turns_end}
use Rattle.search.proofs.running.Running.take_turns.Goals as goal

pub expand-requires : goal.expand-requires
expand-requires g c = can_expand c.loop-place.invariant c.choose-chosen.ensures c.in-Continue.place c.in-Continue.ensures

pub loop-place-preserved : goal.loop-place-preserved
loop-place-preserved g c = turning_more c.loop-place.invariant c.choose-chosen.ensures c.in-Continue.place c.in-Continue.ensures c.expand.ensures c.raise_total-total.ensures

pub returns-in-Break : goal.returns-in-Break
returns-in-Break g c = turns_end c.loop-place.invariant c.choose-chosen.ensures c.in-Break.ending c.start-front.ensures.same_records c.in-Break.ensures
