-- A heap with a hole: what sifting keeps while one slot waits for its entry. Entries are a function of the slot.
use Rattle.std.specs.Prelude.{◌≡◌, ℕ, ◌<◌, Bool, true, ◌≢◌}
use Rattle.queue.specs.Heap.{parent_slot}

-- Every pair that does not touch the hole is in order, and across the hole its parent is at most its children.
pub record Holed {E : Type 0} (at_most : E → E → Bool) (at : ℕ → E) (n hole : ℕ) : Type 0 where
  pub clear : (i : ℕ) → 0 < i → i < n → i ≢ hole → parent_slot i ≢ hole → at_most (at (parent_slot i)) (at i) ≡ true
  pub across : (i : ℕ) → 0 < i → i < n → 0 < hole → parent_slot i ≡ hole → at_most (at (parent_slot hole)) (at i) ≡ true

-- The entry e is at least the one in the hole's parent slot.
abbrev pub FitsAbove : {E : Type 0} → (E → E → Bool) → (ℕ → E) → ℕ → E → Type 0
FitsAbove at_most at hole e = 0 < hole → at_most (at (parent_slot hole)) e ≡ true

-- The entry e is at most each one in a child slot of the hole.
abbrev pub FitsBelow : {E : Type 0} → (E → E → Bool) → (ℕ → E) → ℕ → ℕ → E → Type 0
FitsBelow at_most at n hole e = (i : ℕ) → 0 < i → i < n → parent_slot i ≡ hole → at_most e (at i) ≡ true

-- Slot c is a child slot of the hole, and no other child of the hole is below its entry.
pub record LeastChild {E : Type 0} (at_most : E → E → Bool) (at : E → ℕ → E) (n hole c : ℕ) : Type 0 where
  pub used : c < n
  pub child : (0 < c) × (parent_slot c ≡ hole)
  pub least : (d : E) → FitsBelow at_most (at d) n hole (at d c)
