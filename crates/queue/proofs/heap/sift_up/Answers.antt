use Rattle.std.proofs.Common.{arith, length-set}
use Rattle.queue.proofs.Sifts.{rising_none, rising_more}
use Rattle.queue.proofs.heap.sift_up.Goals as goal

pub loop-hole-init : goal.loop-hole-init
loop-hole-init g c = (c.requires, rising_none g.R.Entry.Ranked.at_most g.met.R.Entry.Ranked.ordered g.R.Slot.entry_of g.R.Slot.with_entry g.met.R.Slot.lens _ _ _)

pub loop-hole-preserved : goal.loop-hole-preserved
loop-hole-preserved g c = (
  simp length-set (omega arith),
  rising_more g.R.Entry.Ranked.at_most g.met.R.Entry.Ranked.ordered g.R.Slot.entry_of g.R.Slot.with_entry g.met.R.Slot.lens c.args.slots.now c.loop-hole.slots c.args.from c.loop-hole.hole c.parent_slot-parent.result c.args.e c.slot_entry-above.result
      c.index-slots-hole.result c.set_entry.new.self
      c.loop-hole.invariant.1 (omega arith) (omega arith) c.parent_slot-parent.ensures c.slot_entry-above.ensures c.set_entry.ensures c.if-fits_above.ensures,
)
