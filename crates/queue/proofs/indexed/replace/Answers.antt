use Rattle.std.proofs.Common.{ℕ, List, take, sym, subst}
use Rattle.queue.specs.Calls.{ReplacedAt}
use Rattle.queue.specs.Entries.{entries}
use Rattle.queue.proofs.HomedCalls.{slot_used, homes_replaced_at, path_homes}
use Rattle.queue.proofs.NotesKept.{indexed_frame, notes_kept}
use Rattle.queue.proofs.indexed.replace.Goals as goal

pub replace_at-deepest-requires-clause-slot : goal.replace_at-deepest-requires-clause-slot
replace_at-deepest-requires-clause-slot g c = slot_used g.R.Homed.home_of g.R.Slot.entry_of g.R.Homed.note_of g.R.Entry.Ranked.at_most _ _ _ _ c.requires.present c.slot_of-slot.ensures

pub write_notes-requires-clause-homes : goal.write_notes-requires-clause-homes
write_notes-requires-clause-homes g c =
    let F = c.replace_at-deepest.ensures.frame in
    let homes = homes_replaced_at g.R.Homed.home_of g.R.Slot.entry_of g.R.Homed.note_of g.R.Entry.Ranked.at_most c.args.n c.args.home c.slot_of-slot.result c.args.e c.args.slots.now c.replace_at-deepest.new.slots c.requires.queue c.requires.notes c.requires.present c.slot_of-slot.ensures c.requires.home c.replace_at-deepest.ensures.queue in
    path_homes g.R.Homed.home_of g.R.Slot.entry_of g.R.Homed.note_of g.R.Entry.Ranked.at_most c.args.n c.replace_at-deepest.result c.args.slots.now c.replace_at-deepest.new.slots F.same_length c.requires.queue homes c.replace_at-deepest.ensures.deepest

pub returns-clause-queue : goal.returns-clause-queue
returns-clause-queue g c = λ r. subst (λ (i : ℕ). ReplacedAt g.R.Entry.Ranked.at_most i c.args.e (entries g.R.Slot.entry_of c.args.n c.args.slots.now) (entries g.R.Slot.entry_of c.args.n c.write_notes.new.slots))
    (sym (c.slot_of-slot.ensures r))
    (subst (λ (es : List g.row.R-Entry.Denot). ReplacedAt g.R.Entry.Ranked.at_most c.slot_of-slot.result c.args.e (entries g.R.Slot.entry_of c.args.n c.args.slots.now) (take c.args.n es))
    (sym c.write_notes.ensures.same_entries) c.replace_at-deepest.ensures.queue)

pub returns-clause-notes : goal.returns-clause-notes
returns-clause-notes g c =
    let F = c.replace_at-deepest.ensures.frame in
    let homes = homes_replaced_at g.R.Homed.home_of g.R.Slot.entry_of g.R.Homed.note_of g.R.Entry.Ranked.at_most c.args.n c.args.home c.slot_of-slot.result c.args.e c.args.slots.now c.replace_at-deepest.new.slots c.requires.queue c.requires.notes c.requires.present c.slot_of-slot.ensures c.requires.home c.replace_at-deepest.ensures.queue in
    notes_kept g.R.Homed.home_of g.R.Slot.entry_of g.R.Slot.with_entry g.R.Homed.note_of g.R.Homed.with_note g.met.R.Homed.notes g.met.R.Homed.apart _ _ _ _ F c.write_notes.ensures c.args.n c.args.n c.requires.notes c.requires.queue homes (λ z. c.replace_at-deepest.ensures.deepest) (λ i l np. l)

pub returns-clause-frame : goal.returns-clause-frame
returns-clause-frame g c = indexed_frame g.R.Homed.home_of g.R.Slot.entry_of g.R.Slot.with_entry g.R.Homed.note_of g.R.Homed.with_note g.met.R.Homed.notes g.met.R.Homed.apart _ _ _ _ c.replace_at-deepest.ensures.frame c.write_notes.ensures
