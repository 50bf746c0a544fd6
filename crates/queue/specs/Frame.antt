-- What a queue call leaves alone.
use Rattle.std.specs.Prelude.{◌≡◌, ℕ, ◌≤◌, List, length, slice_index_or}
use Rattle.queue.specs.Path.{OnPath}

-- A slot off the path of `deepest` keeps its whole record, and on that path nothing but the queue's entry changes.
pub record Frame {R E : Type 0} (entry_of : R → E) (with_entry : R → E → R) (deepest : ℕ) (before after : List R) : Type 0 where
  pub same_length : length after ≡ length before
  pub off_path : (d : R) (a : ℕ) → (OnPath a deepest → ⊥) → slice_index_or after a d ≡ slice_index_or before a d
  pub only_entry : (d : R) (a : ℕ) → slice_index_or after a d ≡ with_entry (slice_index_or before a d) (entry_of (slice_index_or after a d))

-- The records from slot n on are as they were.
abbrev pub SameFrom : {R : Type 0} → ℕ → List R → List R → Type 0
SameFrom {R} n before after = (d : R) (a : ℕ) → n ≤ a → slice_index_or after a d ≡ slice_index_or before a d
