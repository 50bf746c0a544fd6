use Rattle.std.proofs.Common.{◌+◌, List, take, sym, ◌∙◌, subst, inl, inr, arith}
use Rattle.std.proofs.lemmas.Bool.{cases_eq}
use Rattle.queue.specs.Calls.{Inserted}
use Rattle.queue.specs.Entries.{entries}
use Rattle.queue.specs.Path.OnPath.{here}
use Rattle.queue.proofs.HomedCalls.{homes_inserted, path_homes}
use Rattle.queue.proofs.NotesKept.{indexed_frame, notes_kept}
use Rattle.queue.proofs.indexed.insert.Goals as goal

pub write_notes-requires-clause-homes : goal.write_notes-requires-clause-homes
write_notes-requires-clause-homes g c =
    let F = c.insert-deepest.ensures.frame in
    let homes = homes_inserted g.R.Homed.home_of g.R.Slot.entry_of g.R.Homed.note_of g.R.Entry.Ranked.at_most c.args.n c.args.e c.args.slots.now c.insert-deepest.new.slots (omega arith) c.requires.notes c.requires.home c.requires.absent c.insert-deepest.ensures.queue in
    path_homes g.R.Homed.home_of g.R.Slot.entry_of g.R.Homed.note_of g.R.Entry.Ranked.at_most (c.args.n + 1) c.insert-deepest.result c.args.slots.now c.insert-deepest.new.slots F.same_length (omega arith) homes (omega arith)

pub returns-clause-queue : goal.returns-clause-queue
returns-clause-queue g c = subst (λ (es : List g.row.R-Entry.Denot). Inserted g.R.Entry.Ranked.at_most c.args.e (entries g.R.Slot.entry_of c.args.n c.args.slots.now) (take (c.args.n + 1) es))
    (sym c.write_notes.ensures.same_entries) c.insert-deepest.ensures.queue

pub returns-clause-notes : goal.returns-clause-notes
returns-clause-notes g c =
    let F = c.insert-deepest.ensures.frame in
    let homes = homes_inserted g.R.Homed.home_of g.R.Slot.entry_of g.R.Homed.note_of g.R.Entry.Ranked.at_most c.args.n c.args.e c.args.slots.now c.insert-deepest.new.slots (omega arith) c.requires.notes c.requires.home c.requires.absent c.insert-deepest.ensures.queue in
    notes_kept g.R.Homed.home_of g.R.Slot.entry_of g.R.Slot.with_entry g.R.Homed.note_of g.R.Homed.with_note g.met.R.Homed.notes g.met.R.Homed.apart _ _ _ _ F c.write_notes.ensures c.args.n (c.args.n + 1) c.requires.notes (omega arith) homes (λ z. omega arith)
    (λ i l np. elim (cases_eq i c.args.n) [ inl e ↦ absurd (np (here (e ∙ sym c.insert-deepest.ensures.deepest))) | inr ne ↦ omega arith ])

pub returns-clause-frame : goal.returns-clause-frame
returns-clause-frame g c = indexed_frame g.R.Homed.home_of g.R.Slot.entry_of g.R.Slot.with_entry g.R.Homed.note_of g.R.Homed.with_note g.met.R.Homed.notes g.met.R.Homed.apart _ _ _ _ c.insert-deepest.ensures.frame c.write_notes.ensures
