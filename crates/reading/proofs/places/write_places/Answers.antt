use Rattle.std.proofs.Common.{◌≡◌, ◌++◌, drop, ap, ◌∙◌, arith}
use Rattle.table.specs.Table.{records}
use Rattle.reading.proofs.Writing.{lineage, lineage_more, lineage_written}
use Rattle.reading.proofs.places.write_places.Goals as goal

pub returns : goal.returns
returns c m start most cost e =
    let first : 0 ≡ c.loop-slot.slot = omega arith in
    ap (λ k. lineage (records c.args.table.now) k c.loop-slot.place ++ drop k c.loop-slot.list) first
    ∙ c.loop-slot.invariant
    ∙ lineage_written m start (records c.args.table.now) most c.args.goal c.args.count cost c.args.list.now e

pub loop-slot-preserved : goal.loop-slot-preserved
loop-slot-preserved c =
    lineage_more _ c.loop-slot.slot _ _ c.loop-slot.list _ (omega arith) (omega arith) c.write_place-place.ensures.parent c.write_place-place.ensures.list
    ∙ c.loop-slot.invariant
