-- What each call of a queue promises of its entries, es before and es' after.
use Rattle.std.specs.Prelude.{◌≡◌, ℕ, ◌<◌, Bool, true, List, Some, None, Option, slice_index_or}
use Rattle.queue.specs.Entries.{Added, Removed, Replaced}
use Rattle.queue.specs.Heap.{Heap}

-- e is the entry in slot 0 of n entries, and under the rule at most every entry.
pub record HeadEntry {E : Type 0} (at_most : E → E → Bool) (n : ℕ) (es : List E) (e : E) : Type 0 where
  pub used : 0 < n
  pub stands : (d : E) → slice_index_or es 0 d ≡ e
  pub least : Heap at_most es → (d : E) (i : ℕ) → i < n → at_most e (slice_index_or es i d) ≡ true

-- The head of n entries: none if there is no entry, else the head entry.
abbrev pub Head : {E : Type 0} → (E → E → Bool) → ℕ → List E → Option E → Type 0
Head at_most n es None = n ≡ 0
Head at_most n es (Some e) = HeadEntry at_most n es e

-- e was inserted, and the rule kept.
pub record Inserted {E : Type 0} (at_most : E → E → Bool) (e : E) (es es' : List E) : Type 0 where
  pub change : Added e es es'
  pub heap : Heap at_most es → Heap at_most es'

-- The entry in slot i was removed, and the rule kept.
pub record RemovedAt {E : Type 0} (at_most : E → E → Bool) (i : ℕ) (es es' : List E) : Type 0 where
  pub change : (d : E) → Removed (slice_index_or es i d) es es'
  pub heap : Heap at_most es → Heap at_most es'

-- The entry in slot i was replaced by e, and the rule kept.
pub record ReplacedAt {E : Type 0} (at_most : E → E → Bool) (i : ℕ) (e : E) (es es' : List E) : Type 0 where
  pub change : (d : E) → Replaced (slice_index_or es i d) e es es'
  pub heap : Heap at_most es → Heap at_most es'
