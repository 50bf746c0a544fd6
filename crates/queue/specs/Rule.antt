-- The queue's own rule.
use Rattle.std.specs.Prelude.{ℕ, ◌≤◌, Bool, List, length}
use Rattle.queue.specs.Entries.{entries}
use Rattle.queue.specs.Heap.{Heap}

-- The n entries of a queue fill slots 0 to n - 1 without a gap, and stand in heap order.
pub record QueueRule {R E : Type 0} (at_most : E → E → Bool) (entry_of : R → E) (n : ℕ) (slots : List R) : Type 0 where
  pub filled : n ≤ length slots
  pub heap : Heap at_most (entries entry_of n slots)
