use Rattle.std.proofs.Common.{◌≡◌, ℕ, ◌<◌, length, ap, arith, rules}
use Rattle.queue.proofs.NoteWrites.{note_written}
use Rattle.queue.proofs.indexed.write_note.Goals as goal

-- the home x of the entry e is a record, since that of the entry in the slot is
inside : {E : Type 0} (home : E → ℕ) (at : E → E) (e : E) (x m : ℕ) → ((d : E) → home (at d) < m) → ((d : E) → at d ≡ e) → x ≡ home e → x < m
inside home at e x m within is-e is_x = omega (arith, within e, ap home (is-e e))

pub bounds-slots-home : goal.bounds-slots-home
bounds-slots-home g c = inside g.R.Homed.home_of _ c.slot_entry-e.result _ _ c.requires.home c.slot_entry-e.ensures c.home-home.ensures

pub offset_bounds-slots-home : goal.offset_bounds-slots-home
offset_bounds-slots-home g c =
    let l : c.home-home.result < length c.args.slots.now = inside g.R.Homed.home_of _ c.slot_entry-e.result _ _ c.requires.home c.slot_entry-e.ensures c.home-home.ensures in
    search rules

pub returns : goal.returns
returns g c =
    note_written g.R.Homed.home_of g.R.Slot.entry_of g.R.Slot.with_entry g.R.Homed.note_of g.R.Homed.with_note g.met.R.Homed.notes g.met.R.Homed.apart c.args.slots.now c.args.slot c.home-home.result c.slot_entry-e.result c.index-slots-home.result c.set_note.new.self
    (inside g.R.Homed.home_of _ c.slot_entry-e.result _ _ c.requires.home c.slot_entry-e.ensures c.home-home.ensures) c.slot_entry-e.ensures c.home-home.ensures c.set_note.ensures
