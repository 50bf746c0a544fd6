-- The queue's own rule.
use Rattle.std.specs.Prelude.{◌≡◌, ℕ, ◌-◌, ◌/◌, ◌<◌, Bool, true, List, length, slice_index_or}

-- The slot above slot i, for i from 1 on.
abbrev pub parent_slot : ℕ → ℕ
parent_slot i = (i - 1) / 2

-- Entries stand in heap order: each from slot 1 on is at least the one in its parent slot.
abbrev pub Heap : {E : Type 0} → (E → E → Bool) → List E → Type 0
Heap {E} at_most es =
    (d : E) (i : ℕ) → 0 < i → i < length es → at_most (slice_index_or es (parent_slot i) d) (slice_index_or es i d) ≡ true
