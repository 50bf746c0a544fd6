use Rattle.queue.proofs.Settles.{settled_up, settled_down, inserted_by, replaced_by}
use Rattle.queue.proofs.heap.settle.Goals as goal

pub returns-then-top-i : goal.returns-then-top-i
returns-then-top-i g c =
    let s = settled_up g.R.Slot.entry_of g.R.Entry.Ranked.at_most g.met.R.Entry.Ranked.ordered g.R.Slot.with_entry g.met.R.Slot.lens c.args.n c.args.i c.sift_up-top.result c.args.e c.args.slots.now c.sift_up-top.new.slots _ c.set_entry.new.self
    c.requires.slot c.requires.queue c.sift_up-top.ensures c.if-top-i.true c.set_entry.ensures in
    record { inserted = inserted_by g.R.Slot.entry_of g.R.Entry.Ranked.at_most g.met.R.Entry.Ranked.ordered g.R.Slot.with_entry g.met.R.Slot.lens _ _ _ _ _ _ c.requires.queue s; replaced = replaced_by g.R.Slot.entry_of g.R.Entry.Ranked.at_most g.met.R.Entry.Ranked.ordered g.R.Slot.with_entry g.met.R.Slot.lens _ _ _ _ _ _ c.requires.queue c.requires.slot s; frame = s.frame; low = s.low; deepest = s.used }

pub returns-else-top-i : goal.returns-else-top-i
returns-else-top-i g c =
    let s = settled_down g.R.Slot.entry_of g.R.Entry.Ranked.at_most g.met.R.Entry.Ranked.ordered g.R.Slot.with_entry g.met.R.Slot.lens c.args.n c.args.i c.sift_up-top.result c.sift_down-bottom.result c.args.e c.args.slots.now c.sift_up-top.new.slots c.sift_down-bottom.new.slots _ c.set_entry-else-top-i.new.self
    c.requires.slot c.requires.queue c.sift_up-top.ensures c.if-top-i.false c.sift_down-bottom.ensures c.set_entry-else-top-i.ensures in
    record { inserted = inserted_by g.R.Slot.entry_of g.R.Entry.Ranked.at_most g.met.R.Entry.Ranked.ordered g.R.Slot.with_entry g.met.R.Slot.lens _ _ _ _ _ _ c.requires.queue s; replaced = replaced_by g.R.Slot.entry_of g.R.Entry.Ranked.at_most g.met.R.Entry.Ranked.ordered g.R.Slot.with_entry g.met.R.Slot.lens _ _ _ _ _ _ c.requires.queue c.requires.slot s; frame = s.frame; low = s.low; deepest = s.used }
