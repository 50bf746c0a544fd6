-- What sifting promises: a hole moves along its path, the entries on the way move over by one slot.
use Rattle.std.specs.Prelude.{◌≡◌, ℕ, ◌+◌, ◌<◌, ◌≤◌, Bool, List, length, sum_by}
use Rattle.queue.specs.Entries.{entries, entry_at}
use Rattle.queue.specs.Frame.{Frame}
use Rattle.queue.specs.Hole.{Holed, FitsAbove, FitsBelow}
use Rattle.queue.specs.Path.{OnPath}

-- The hole moved among the first n slots: all other entries are there as often as before, and a heap with a hole stayed one.
pub record HoleMoved {R E : Type 0} (at_most : E → E → Bool) (entry_of : R → E) (n : ℕ) (before : List R) (hole : ℕ) (after : List R) (hole' : ℕ) : Type 0 where
  pub sums :
      (f : E → ℕ) (d : E)
      → sum_by f (entries entry_of n after) + f (entry_at entry_of before d hole) ≡ sum_by f (entries entry_of n before) + f (entry_at entry_of after d hole')
  pub holed : (d : E) → Holed at_most (entry_at entry_of before d) n hole → Holed at_most (entry_at entry_of after d) n hole'

-- The hole rose, and whatever moved made e fit below.
pub record Rising {R E : Type 0} (at_most : E → E → Bool) (entry_of : R → E) (with_entry : R → E → R) (before : List R) (hole : ℕ) (e : E) (after : List R) (top : ℕ) : Type 0 where
  pub on_path : OnPath top hole
  pub frame : Frame entry_of with_entry hole before after
  pub moved : (n : ℕ) → hole < n → n ≤ length before → HoleMoved at_most entry_of n before hole after top
  pub below : (n : ℕ) (d : E) → hole < n → n ≤ length before → Holed at_most (entry_at entry_of before d) n hole → top < hole → FitsBelow at_most (entry_at entry_of after d) n top e
  pub still : top ≡ hole → after ≡ before

-- The hole rose until e fits above.
pub record Risen {R E : Type 0} (at_most : E → E → Bool) (entry_of : R → E) (with_entry : R → E → R) (before : List R) (hole : ℕ) (e : E) (after : List R) (top : ℕ) : Type 0 where
  pub rising : Rising at_most entry_of with_entry before hole e after top
  pub above : (d : E) → FitsAbove at_most (entry_at entry_of after d) top e

-- The hole sank among the first n slots, and whatever moved made e fit above.
pub record Sinking {R E : Type 0} (at_most : E → E → Bool) (entry_of : R → E) (with_entry : R → E → R) (n : ℕ) (before : List R) (hole : ℕ) (e : E) (after : List R) (bottom : ℕ) : Type 0 where
  pub used : bottom < n
  pub on_path : OnPath hole bottom
  pub frame : Frame entry_of with_entry bottom before after
  pub moved : HoleMoved at_most entry_of n before hole after bottom
  pub above : (d : E) → FitsAbove at_most (entry_at entry_of before d) hole e → FitsAbove at_most (entry_at entry_of after d) bottom e

-- The hole sank until e fits below.
pub record Sunk {R E : Type 0} (at_most : E → E → Bool) (entry_of : R → E) (with_entry : R → E → R) (n : ℕ) (before : List R) (hole : ℕ) (e : E) (after : List R) (bottom : ℕ) : Type 0 where
  pub sinking : Sinking at_most entry_of with_entry n before hole e after bottom
  pub below : (d : E) → FitsBelow at_most (entry_at entry_of after d) n bottom e
