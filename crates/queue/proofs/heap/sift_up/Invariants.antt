use Rattle.std.proofs.Common.{◌<◌, length}
use Rattle.queue.specs.Sift.{Rising}
use Rattle.queue.proofs.heap.sift_up.Given as goal

abbrev pub invariant-loop-hole : goal.invariant-loop-hole
invariant-loop-hole g l = (l.hole < length l.slots) × Rising g.R.Entry.Ranked.at_most g.R.Slot.entry_of g.R.Slot.with_entry l.initial.slots l.from l.e l.slots l.hole

abbrev pub decreases-loop-hole : goal.decreases-loop-hole
decreases-loop-hole g l = l.hole
