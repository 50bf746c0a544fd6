use Rattle.floors.specs.Guided.{guided}
use Rattle.expansion.proofs.Spreading.{Spread}
use Rattle.expansion.proofs.expand.expand.Given as goal

abbrev pub invariant-loop-number : goal.invariant-loop-number
invariant-loop-number g l =
    Spread (guided (g.F.Floor.meaning l.floor) (g.F.GuidedFloor.guesses l.floor)) l.search l.initial.table l.place l.number l.frontier l.table
