-- The check of a roster, as a definition that is worked out, and what it decides.
use Rattle.std.specs.Prelude.{◌≡◌, ℕ, zero, suc, ◌<◌, Bool, true, false, cond, ◌&&◌, ◌||◌, List, [], ◌∷◌, length, is_some, Some, None, Option, ◌==◌, nat_lt, slice_index_or}
use Rattle.queue.specs.Heap.{parent_slot}
use Rattle.roster.specs.Holds.{Holds, expected_count}
use Rattle.std.specs.List.{slice_get}

-- What the records expect, each of itself as a home: nothing past the last record.
abbrev pub expected_in : {R E : Type 0} → (R → ℕ → Option E) → List R → ℕ → Option E
expected_in wanted slots h = elim (slice_get slots h) [ Some r ↦ wanted r h | None ↦ None ]

-- Every number below n passes.
abbrev pub every : (ℕ → Bool) → ℕ → Bool
every passes zero = true
every passes (suc n) = every passes n && passes n

-- The entry is the expected one: each of the two is at most the other.
abbrev pub expects : {E : Type 0} → (E → E → Bool) → Option E → E → Bool
expects at_most None e = false
expects at_most (Some x) e = at_most x e && at_most e x

-- The entry e may stand in slot i: it is in slot 0, or at least the one in the parent slot. Past the last slot stands d.
abbrev pub fits_slot : {R E : Type 0} → (E → E → Bool) → (R → E) → R → List R → ℕ → E → Bool
fits_slot at_most entry_of d slots i e = i == 0 || at_most (entry_of (slice_index_or slots (parent_slot i) d)) e

-- The entry e in slot i has a record as its home, which expects e and notes i, and fits its slot.
abbrev pub entry_right : {R E : Type 0} → (E → E → Bool) → (E → ℕ) → (R → E) → (R → ℕ) → (ℕ → Option E) → R → List R → ℕ → E → Bool
entry_right at_most Home_of entry_of note_of expected d slots i e =
    nat_lt (Home_of e) (length slots)
    && (expects at_most (expected (Home_of e)) e && (note_of (slice_index_or slots (Home_of e) d) == i && fits_slot at_most entry_of d slots i e))

-- The entry in slot i is right.
abbrev pub slot_right : {R E : Type 0} → (E → E → Bool) → (E → ℕ) → (R → E) → (R → ℕ) → (ℕ → Option E) → R → List R → ℕ → Bool
slot_right at_most Home_of entry_of note_of expected d slots i =
    entry_right at_most Home_of entry_of note_of expected d slots i (entry_of (slice_index_or slots i d))

-- The slot s, which the home h notes, is one of n, and its entry names h.
abbrev pub names_home : {R E : Type 0} → (E → ℕ) → (R → E) → ℕ → R → List R → ℕ → ℕ → Bool
names_home Home_of entry_of n d slots h s = nat_lt s n && Home_of (entry_of (slice_index_or slots s d)) == h

-- The home h is not expected, or notes one of n slots with an entry of its own.
abbrev pub home_right : {R E : Type 0} → (E → ℕ) → (R → E) → (R → ℕ) → (ℕ → Option E) → ℕ → R → List R → ℕ → Bool
home_right Home_of entry_of note_of expected n d slots h =
    cond (is_some (expected h)) (names_home Home_of entry_of n d slots h (note_of (slice_index_or slots h d))) true

-- Every slot of n and every home is right.
abbrev pub all_right : {R E : Type 0} → (E → E → Bool) → (E → ℕ) → (R → E) → (R → ℕ) → (ℕ → Option E) → ℕ → R → List R → Bool
all_right at_most Home_of entry_of note_of expected n d slots =
    every (slot_right at_most Home_of entry_of note_of expected d slots) n
    && every (home_right Home_of entry_of note_of expected n d slots) (length slots)

-- The roster is right, with as many entries as homes are expected.
abbrev pub roster_right : {R E : Type 0} → (E → E → Bool) → (E → ℕ) → (R → E) → (R → ℕ) → (ℕ → Option E) → List R → Bool
roster_right at_most Home_of entry_of note_of expected [] = true
roster_right at_most Home_of entry_of note_of expected (d ∷ rest) =
    all_right at_most Home_of entry_of note_of expected (expected_count expected (length (d ∷ rest))) d (d ∷ rest)

-- What the check's answer says: the queue of n holds what is expected, or no queue does.
abbrev pub Decided : {R E : Type 0} → (E → E → Bool) → (E → ℕ) → (R → E) → (R → ℕ) → (ℕ → Option E) → List R → Option ℕ → Type 0
Decided at_most Home_of entry_of note_of expected slots (Some n) = Holds at_most Home_of entry_of note_of expected n slots
Decided at_most Home_of entry_of note_of expected slots None = (n : ℕ) → Holds at_most Home_of entry_of note_of expected n slots → ⊥

-- What a test of the numbers below n says: all pass, or one fails, whatever stands past the last slot.
abbrev pub Tested : {R : Type 0} → (R → ℕ → Bool) → ℕ → Bool → Type 0
Tested {R} passes n true = (k : ℕ) → k < n → (d : R) → passes d k ≡ true
Tested {R} passes n false = (k : ℕ) × (k < n) × ((d : R) → passes d k ≡ false)
