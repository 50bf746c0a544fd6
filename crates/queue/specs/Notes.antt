-- Notes: an entry names a home record, and the home notes the slot in which its entry stands.
use Rattle.std.specs.Prelude.{◌≡◌, ℕ, ◌<◌, ◌≢◌, List, length, slice_index_or}
use Rattle.queue.specs.Entries.{entry_at}
use Rattle.queue.specs.Path.{OnPath}

-- The notes of a queue of n are right: the home of each entry is a record of the slots, and notes the entry's slot.
abbrev pub NotesRight : {R E : Type 0} → (E → ℕ) → (R → E) → (R → ℕ) → ℕ → List R → Type 0
NotesRight {R} {E} Home_of entry_of note_of n slots =
    (d : E) (r : R) (i : ℕ)
    → i < n
    → (Home_of (entry_at entry_of slots d i) < length slots) × (note_of (slice_index_or slots (Home_of (entry_at entry_of slots d i)) r) ≡ i)

-- No entry of a queue of n names the home h.
abbrev pub Absent : {R E : Type 0} → (E → ℕ) → (R → E) → ℕ → List R → ℕ → Type 0
Absent {R} {E} Home_of entry_of n slots h = (d : E) (i : ℕ) → i < n → Home_of (entry_at entry_of slots d i) ≢ h

-- The home h has its entry in a queue of n: its note is a slot of the queue, and the entry there names h.
pub record Present {R E : Type 0} (Home_of : E → ℕ) (entry_of : R → E) (note_of : R → ℕ) (n : ℕ) (slots : List R) (h : ℕ) : Type 0 where
  pub within : h < length slots
  pub used : (r : R) → note_of (slice_index_or slots h r) < n
  pub names : (d : E) (r : R) → Home_of (entry_at entry_of slots d (note_of (slice_index_or slots h r))) ≡ h

-- What an indexed call leaves alone: entries off the path of `deepest`, all of each record but its entry and its note, and the whole record where it is off the path and no home of an entry on it.
pub record IndexedFrame {R E : Type 0} (Home_of : E → ℕ) (entry_of : R → E) (with_entry : R → E → R) (note_of : R → ℕ) (with_note : R → ℕ → R) (deepest : ℕ) (before after : List R) : Type 0 where
  pub same_length : length after ≡ length before
  pub off_path : (d : E) (a : ℕ) → (OnPath a deepest → ⊥) → entry_at entry_of after d a ≡ entry_at entry_of before d a
  pub only_queue :
      (r : R) (a : ℕ) → slice_index_or after a r ≡ with_note (with_entry (slice_index_or before a r) (entry_of (slice_index_or after a r))) (note_of (slice_index_or after a r))
  pub whole :
      (r : R) (a : ℕ)
      → (OnPath a deepest → ⊥)
      → ((d : E) (i : ℕ) → OnPath i deepest → Home_of (entry_at entry_of after d i) ≢ a)
      → slice_index_or after a r ≡ slice_index_or before a r
