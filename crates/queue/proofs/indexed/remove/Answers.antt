use Rattle.std.proofs.Common.{ℕ, ◌-◌, ◌<◌, List, take, sym, subst, arith}
use Rattle.queue.specs.Calls.{RemovedAt}
use Rattle.queue.specs.Entries.{entries}
use Rattle.queue.proofs.HomedCalls.{slot_used, homes_removed_at, path_homes_removed}
use Rattle.queue.proofs.NotesKept.{indexed_frame, notes_kept}
use Rattle.queue.proofs.indexed.remove.Goals as goal

pub remove_at-deepest-requires-clause-slot : goal.remove_at-deepest-requires-clause-slot
remove_at-deepest-requires-clause-slot g c = slot_used g.R.Homed.home_of g.R.Slot.entry_of g.R.Homed.note_of g.R.Entry.Ranked.at_most _ _ _ _ c.requires.present c.slot_of-slot.ensures

pub write_notes-requires-clause-homes : goal.write_notes-requires-clause-homes
write_notes-requires-clause-homes g c =
    let F = c.remove_at-deepest.ensures.frame in
    let used : c.slot_of-slot.result < c.args.n = slot_used g.R.Homed.home_of g.R.Slot.entry_of g.R.Homed.note_of g.R.Entry.Ranked.at_most _ _ _ _ c.requires.present c.slot_of-slot.ensures in
    let homes = homes_removed_at g.R.Homed.home_of g.R.Slot.entry_of g.R.Homed.note_of g.R.Entry.Ranked.at_most c.args.n c.slot_of-slot.result c.args.slots.now c.remove_at-deepest.new.slots c.requires.queue c.requires.notes used c.remove_at-deepest.ensures.queue in
    path_homes_removed g.R.Homed.home_of g.R.Slot.entry_of g.R.Homed.note_of g.R.Entry.Ranked.at_most c.args.n c.remove_at-deepest.result c.args.slots.now c.remove_at-deepest.new.slots F.same_length c.requires.queue (omega arith) c.requires.notes
    c.remove_at-deepest.ensures.beyond homes c.remove_at-deepest.ensures.deepest

pub returns-clause-queue : goal.returns-clause-queue
returns-clause-queue g c = λ r. subst (λ (i : ℕ). RemovedAt g.R.Entry.Ranked.at_most i (entries g.R.Slot.entry_of c.args.n c.args.slots.now) (entries g.R.Slot.entry_of (c.args.n - 1) c.write_notes.new.slots))
    (sym (c.slot_of-slot.ensures r))
    (subst (λ (es : List g.row.R-Entry.Denot). RemovedAt g.R.Entry.Ranked.at_most c.slot_of-slot.result (entries g.R.Slot.entry_of c.args.n c.args.slots.now) (take (c.args.n - 1) es))
    (sym c.write_notes.ensures.same_entries) c.remove_at-deepest.ensures.queue)

pub returns-clause-notes : goal.returns-clause-notes
returns-clause-notes g c =
    let F = c.remove_at-deepest.ensures.frame in
    let used : c.slot_of-slot.result < c.args.n = slot_used g.R.Homed.home_of g.R.Slot.entry_of g.R.Homed.note_of g.R.Entry.Ranked.at_most _ _ _ _ c.requires.present c.slot_of-slot.ensures in
    let homes = homes_removed_at g.R.Homed.home_of g.R.Slot.entry_of g.R.Homed.note_of g.R.Entry.Ranked.at_most c.args.n c.slot_of-slot.result c.args.slots.now c.remove_at-deepest.new.slots c.requires.queue c.requires.notes used c.remove_at-deepest.ensures.queue in
    notes_kept g.R.Homed.home_of g.R.Slot.entry_of g.R.Slot.with_entry g.R.Homed.note_of g.R.Homed.with_note g.met.R.Homed.notes g.met.R.Homed.apart _ _ _ _ F c.write_notes.ensures c.args.n (c.args.n - 1) c.requires.notes (omega arith) homes (λ z. omega arith) (λ i l np. omega arith)

pub returns-clause-frame : goal.returns-clause-frame
returns-clause-frame g c = indexed_frame g.R.Homed.home_of g.R.Slot.entry_of g.R.Slot.with_entry g.R.Homed.note_of g.R.Homed.with_note g.met.R.Homed.notes g.met.R.Homed.apart _ _ _ _ c.remove_at-deepest.ensures.frame c.write_notes.ensures
