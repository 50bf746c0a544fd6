use Rattle.reading.proofs.Measuring.{counted_more}
use Rattle.reading.proofs.measure.measure.Goals as goal

pub loop-count-preserved : goal.loop-count-preserved
loop-count-preserved g c =
    counted_more _ _ _ _ _ _ _ _ _
    (g.F.Floor.sound c.args.floor.now)
    c.loop-count.invariant
    c.loop-count-test.true
    c.in-Parent.ensures
