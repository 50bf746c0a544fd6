-- One call for every change of what is expected of one home.
use Rattle.std.specs.Prelude.{◌≡◌, ℕ, ◌+◌, ◌-◌, ◌<◌, ◌≤◌, Bool, cond, List, length, is_some, Some, Option, slice_index_or}
use Rattle.roster.specs.Holds.{Holds}

-- The queue holds some expectations, in which the home has an entry or not, as `was` says; what is wanted names the home.
pub record Updatable {R E : Type 0} (at_most : E → E → Bool) (Home_of : E → ℕ) (entry_of : R → E) (note_of : R → ℕ) (note_limit n h : ℕ) (was : Bool) (wanted : Option E) (slots : List R) : Type 0 where
  pub expected : ℕ → Option E
  pub holds : Holds at_most Home_of entry_of note_of expected n slots
  pub before : is_some (expected h) ≡ was
  pub within : h < length slots
  pub noted : length slots ≤ note_limit
  pub names : (e : E) → wanted ≡ Some e → Home_of e ≡ h

-- The number of entries afterwards.
abbrev pub updated_count : {E : Type 0} → ℕ → Bool → Option E → ℕ
updated_count n was wanted = (n + cond (is_some wanted) 1 0) - cond was 1 0

-- Every record is as before but for its entry and its note of the queue.
pub record QueueOnly {R E : Type 0} (entry_of : R → E) (with_entry : R → E → R) (note_of : R → ℕ) (with_note : R → ℕ → R) (before after : List R) : Type 0 where
  pub same_length : length after ≡ length before
  pub only_queue :
      (r : R) (a : ℕ) → slice_index_or after a r ≡ with_note (with_entry (slice_index_or before a r) (entry_of (slice_index_or after a r))) (note_of (slice_index_or after a r))
