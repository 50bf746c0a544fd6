use Rattle.std.proofs.Common.{◌-◌, arith}
use Rattle.queue.proofs.Settles.{removed_by, removed_last, frame_from}
use Rattle.queue.proofs.heap.remove_at.Goals as goal

pub returns-then-i-n-clause-queue : goal.returns-then-i-n-clause-queue
returns-then-i-n-clause-queue g c =
    removed_by g.R.Slot.entry_of g.R.Entry.Ranked.at_most g.met.R.Entry.Ranked.ordered g.R.Slot.with_entry g.met.R.Slot.lens c.args.n (c.args.n - 1) c.args.i _ _ _ (omega arith) (omega arith) (omega arith) c.slot_entry-last.ensures c.settle.ensures.replaced

pub returns-then-i-n-clause-beyond : goal.returns-then-i-n-clause-beyond
returns-then-i-n-clause-beyond g c = frame_from g.R.Slot.entry_of g.R.Entry.Ranked.at_most g.met.R.Entry.Ranked.ordered g.R.Slot.with_entry g.met.R.Slot.lens _ _ _ _ c.settle.ensures.frame (omega arith)

pub returns-else-i-n-clause-queue : goal.returns-else-i-n-clause-queue
returns-else-i-n-clause-queue g c = removed_last g.R.Slot.entry_of g.R.Entry.Ranked.at_most g.met.R.Entry.Ranked.ordered g.R.Slot.with_entry g.met.R.Slot.lens c.args.n (c.args.n - 1) c.args.i _ (omega arith) (omega arith) (omega arith)
