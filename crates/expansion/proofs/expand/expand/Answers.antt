use Rattle.std.proofs.Common.{sym, arith}
use Rattle.floors.specs.Guided.{guided_sound}
use Rattle.expansion.proofs.Spreading.{label_limit, spread_offered, spread_barred}
use Rattle.expansion.proofs.expand.expand.Goals as goal
use Rattle.expansion.proofs.expand.expand.Goals.{in-Some, in_default}

pub overflow_add-way : goal.overflow_add-way
overflow_add-way g c =
    let limits = (g.F.Floor.sound c.args.floor.now).limits in
    let cost = limits.costs c.args.place c.loop-number.number c.in-Some.leg (sym c.in-Some.ensures) in
    omega (arith, label_limit c.requires)

pub loop-number-preserved : goal.loop-number-preserved
loop-number-preserved g c =
    elim c.match-leg.branch [
      | in-Some w ↦
          rw (w.frontier-is, w.table-is)
          (spread_offered _ c.requires c.close.ensures c.loop-number.invariant
          (guided_sound _ _ (g.F.Floor.sound c.args.floor.now) (g.F.GuidedFloor.limited c.args.floor.now))
          w.in-Some.leg (sym w.in-Some.ensures) w.offer.ensures)
      | in_default w ↦ rw (w.frontier-is, w.table-is) (spread_barred c.loop-number.invariant (sym w.in_default.ensures))
    ]
