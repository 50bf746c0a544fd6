-- The slots that a queue call may change.
use Rattle.std.specs.Prelude.{◌≡◌, ℕ, zero, suc, ◌<◌}
use Rattle.queue.specs.Heap.{parent_slot}

-- Slot a is on the path of slot k: it is k, or it is on the path of k's parent slot.
pub data OnPath (a : ℕ) : ℕ → Type 0 where
  here : {k : ℕ} → a ≡ k → OnPath a k
  above : {k : ℕ} → 0 < k → OnPath a (parent_slot k) → OnPath a k

-- The slot that is j steps above slot k.
abbrev pub ancestor : ℕ → ℕ → ℕ
ancestor zero k = k
ancestor (suc j) k = ancestor j (parent_slot k)
