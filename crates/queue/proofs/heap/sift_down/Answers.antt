use Rattle.std.proofs.Common.{arith}
use Rattle.queue.proofs.Sifts.{sinking_none, sinking_more}
use Rattle.queue.proofs.heap.sift_down.Goals as goal

pub loop-hole-init : goal.loop-hole-init
loop-hole-init g c = (c.requires.slot, sinking_none g.R.Entry.Ranked.at_most g.met.R.Entry.Ranked.ordered g.R.Slot.entry_of g.R.Slot.with_entry g.met.R.Slot.lens _ _ _ _ c.requires.slot)

pub loop-hole-preserved : goal.loop-hole-preserved
loop-hole-preserved g c = (
  c.least_child-child.ensures.used,
  sinking_more g.R.Entry.Ranked.at_most g.met.R.Entry.Ranked.ordered g.R.Slot.entry_of g.R.Slot.with_entry g.met.R.Slot.lens c.args.n c.args.slots.now c.loop-hole.slots c.args.from c.loop-hole.hole c.least_child-child.result c.args.e c.slot_entry-below.result
      c.index-slots-hole.result c.set_entry.new.self
      c.loop-hole.invariant.1 (omega arith) c.least_child-child.ensures c.slot_entry-below.ensures c.set_entry.ensures c.if-fits_below.ensures,
)
