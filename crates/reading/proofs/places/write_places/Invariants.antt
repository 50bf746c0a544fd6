use Rattle.std.proofs.Common.{◌≡◌, ◌++◌, drop}
use Rattle.table.specs.Table.{records}
use Rattle.reading.proofs.Writing.{lineage}
use Rattle.reading.proofs.places.write_places.Given as goal

abbrev pub invariant-loop-slot : goal.invariant-loop-slot
invariant-loop-slot l = lineage (records l.table) l.slot l.place ++ drop l.slot l.list ≡ lineage (records l.table) l.count l.goal ++ drop l.count l.initial.list
