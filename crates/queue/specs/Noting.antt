-- What writing notes along a path promises.
use Rattle.std.specs.Prelude.{◌≡◌, ℕ, ◌<◌, ◌≢◌, List, map, length, slice_index_or}
use Rattle.queue.specs.Entries.{entry_at}
use Rattle.queue.specs.Path.{OnPath}

-- The home of the entry in slot i notes i, where the entries are those of `slots` and the notes those of `now`.
abbrev pub NoteRight : {R E : Type 0} → (E → ℕ) → (R → E) → (R → ℕ) → List R → List R → ℕ → Type 0
NoteRight {R} {E} Home_of entry_of note_of slots now i =
    (d : E) (r : R) → note_of (slice_index_or now (Home_of (entry_at entry_of slots d i)) r) ≡ i

-- The first n entries have homes of their own.
abbrev pub OwnHomes : {R E : Type 0} → (E → ℕ) → (R → E) → ℕ → List R → Type 0
OwnHomes {R} {E} Home_of entry_of n slots =
    (d : E) (i j : ℕ) → i < n → j < n → Home_of (entry_at entry_of slots d i) ≡ Home_of (entry_at entry_of slots d j) → i ≡ j

-- The home of the entry in slot i was given the note i, and nothing else changed.
pub record NoteWritten {R E : Type 0} (Home_of : E → ℕ) (entry_of : R → E) (note_of : R → ℕ) (with_note : R → ℕ → R) (i : ℕ) (before after : List R) : Type 0 where
  pub same_length : length after ≡ length before
  pub same_entries : map entry_of after ≡ map entry_of before
  pub only_note : (r : R) (a : ℕ) → slice_index_or after a r ≡ with_note (slice_index_or before a r) (note_of (slice_index_or after a r))
  pub there : NoteRight Home_of entry_of note_of before after i
  pub others : (d : E) (r : R) (a : ℕ) → Home_of (entry_at entry_of before d i) ≢ a → slice_index_or after a r ≡ slice_index_or before a r

-- Notes were written along the path of `deepest`, but for the slots that are left.
pub record Noted {R E : Type 0} (Home_of : E → ℕ) (entry_of : R → E) (note_of : R → ℕ) (with_note : R → ℕ → R) (left : ℕ → Type 0) (deepest : ℕ) (before after : List R) : Type 0 where
  pub same_length : length after ≡ length before
  pub same_entries : map entry_of after ≡ map entry_of before
  pub only_note : (r : R) (a : ℕ) → slice_index_or after a r ≡ with_note (slice_index_or before a r) (note_of (slice_index_or after a r))
  pub others :
      (r : R) (a : ℕ) → ((d : E) (i : ℕ) → OnPath i deepest → Home_of (entry_at entry_of before d i) ≢ a) → slice_index_or after a r ≡ slice_index_or before a r
  pub right :
      (n : ℕ)
      → deepest < n
      → OwnHomes Home_of entry_of n before
      → ((i : ℕ) → i < n → (OnPath i deepest → ⊥) → NoteRight Home_of entry_of note_of before before i)
      → (i : ℕ) → i < n → (left i → ⊥) → NoteRight Home_of entry_of note_of before after i
