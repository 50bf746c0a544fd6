-- The entries of a queue, and what "the same entries plus or minus one" means.
use Rattle.std.specs.Prelude.{◌≡◌, ℕ, ◌+◌, List, map, take, sum_by, slice_index_or}

-- The entries of a queue of n: those in the first n slots, in the order of the slots.
abbrev pub entries : {R E : Type 0} → (R → E) → ℕ → List R → List E
entries entry_of n slots = take n (map entry_of slots)

-- The entry in slot i, and d past the last slot.
abbrev pub entry_at : {R E : Type 0} → (R → E) → List R → E → ℕ → E
entry_at entry_of slots d i = slice_index_or (map entry_of slots) i d

-- The entries after are those before and e, each as often: every sum over them has grown by e's share.
abbrev pub Added : {E : Type 0} → E → List E → List E → Type 0
Added {E} e before after = (f : E → ℕ) → sum_by f after ≡ sum_by f before + f e

-- The entries after are those before without one e.
abbrev pub Removed : {E : Type 0} → E → List E → List E → Type 0
Removed e before after = Added e after before

-- The entries after are those before with e in the place of one old.
abbrev pub Replaced : {E : Type 0} → E → E → List E → List E → Type 0
Replaced {E} old e before after = (f : E → ℕ) → sum_by f after + f old ≡ sum_by f before + f e
