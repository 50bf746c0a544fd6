use Rattle.std.proofs.Common.{ℕ, sym, refl, subst, ⊎_elim, arith}
use Rattle.queue.specs.Path.{OnPath}
use Rattle.queue.specs.Path.OnPath.{here}
use Rattle.queue.proofs.Paths.{on_path_up, on_path_split, on_path_le}
use Rattle.queue.proofs.NoteWrites.{noted_none, noted_more}
use Rattle.queue.proofs.indexed.write_notes.Goals as goal

pub loop-slot-init : goal.loop-slot-init
loop-slot-init g c = (omega arith, here refl, noted_none g.R.Homed.home_of g.R.Slot.entry_of g.R.Slot.with_entry g.R.Homed.note_of g.R.Homed.with_note g.met.R.Homed.notes g.met.R.Homed.apart _ _)

pub loop-slot-preserved : goal.loop-slot-preserved
loop-slot-preserved g c = (
  omega arith,
  subst (λ (p : ℕ). OnPath p c.args.deepest) (sym c.parent_slot-slot.ensures) (on_path_up (omega arith) c.loop-slot.invariant.1),
  noted_more g.R.Homed.home_of g.R.Slot.entry_of g.R.Slot.with_entry g.R.Homed.note_of g.R.Homed.with_note g.met.R.Homed.notes g.met.R.Homed.apart (λ i. OnPath i c.loop-slot.slot) (λ i. OnPath i c.parent_slot-slot.result) c.args.deepest c.loop-slot.slot c.args.slots.now c.loop-slot.slots c.write_note.new.slots
      c.loop-slot.invariant.2 c.loop-slot.invariant.1 c.write_note.ensures
      (λ i done ne p. ⊎_elim ne (λ q. done (subst (OnPath i) (sym c.parent_slot-slot.ensures) q)) (on_path_split p)),
)

pub returns : goal.returns
returns g c =
    noted_more g.R.Homed.home_of g.R.Slot.entry_of g.R.Slot.with_entry g.R.Homed.note_of g.R.Homed.with_note g.met.R.Homed.notes g.met.R.Homed.apart (λ i. OnPath i c.loop-slot.slot) (λ _. ⊥) c.args.deepest c.loop-slot.slot c.args.slots.now c.loop-slot.slots c.write_note-2.new.slots
    c.loop-slot.invariant.2 c.loop-slot.invariant.1 c.write_note-2.ensures (λ i done ne p. ne (omega (arith, on_path_le p)))
