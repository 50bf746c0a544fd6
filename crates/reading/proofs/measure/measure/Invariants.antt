use Rattle.search_model.specs.Read.{follow}
use Rattle.table.specs.Table.{records}
use Rattle.reading.specs.Trails.{measured}
use Rattle.reading.proofs.Measuring.{Counted}
use Rattle.reading.proofs.measure.measure.Given as goal

abbrev pub invariant-loop-count : goal.invariant-loop-count
invariant-loop-count g l =
    Counted
    (g.F.Floor.meaning l.floor)
    l.start
    (records l.table)
    l.most
    l.count
    l.cost
    l.place
    (measured (follow (g.F.Floor.meaning l.floor) l.start (records l.table) l.most l.goal))
