use Rattle.std.proofs.Common.{◌-◌}
use Rattle.floors.specs.Guided.{guided}
use Rattle.table.specs.Table.{records}
use Rattle.search.proofs.Turning.{Turning}
use Rattle.search.proofs.running.Running.take_turns.Given as goal

abbrev pub invariant-loop-place : goal.invariant-loop-place
invariant-loop-place g l =
    Turning (guided (g.F.Floor.meaning l.floor) (g.F.GuidedFloor.guesses l.floor)) l.state l.budget (records l.initial.table) l.front l.spent l.total l.table

abbrev pub decreases-loop-place : goal.decreases-loop-place
decreases-loop-place g l = l.budget - l.spent
