use Rattle.std.proofs.Common.{◌≤◌}
use Rattle.queue.specs.Noting.{Noted}
use Rattle.queue.specs.Path.{OnPath}
use Rattle.queue.proofs.indexed.write_notes.Given as goal

abbrev pub invariant-loop-slot : goal.invariant-loop-slot
invariant-loop-slot g l =
    (l.slot ≤ l.deepest)
    × OnPath l.slot l.deepest
    × Noted g.R.Homed.home_of g.R.Slot.entry_of g.R.Homed.note_of g.R.Homed.with_note (λ i. OnPath i l.slot) l.deepest l.initial.slots l.slots

abbrev pub decreases-loop-slot : goal.decreases-loop-slot
decreases-loop-slot g l = l.slot
