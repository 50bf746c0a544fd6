-- A queue that holds exactly the homes that are expected in it, each with its expected entry.
use Rattle.std.specs.Prelude.{◌≡◌, ℕ, zero, suc, ◌+◌, ◌<◌, Bool, true, cond, List, is_some, Some, None, Option, ◌==◌}
use Rattle.queue.specs.Entries.{entry_at}
use Rattle.queue.specs.Notes.{NotesRight, Present}
use Rattle.queue.specs.Rule.{QueueRule}

-- A queue of n holds what is expected: it keeps its rule and its notes, every entry is the expected one of its home, and every home with an expected entry is present.
pub record Holds {R E : Type 0} (at_most : E → E → Bool) (Home_of : E → ℕ) (entry_of : R → E) (note_of : R → ℕ) (expected : ℕ → Option E) (n : ℕ) (slots : List R) : Type 0 where
  pub rule : QueueRule at_most entry_of n slots
  pub notes : NotesRight Home_of entry_of note_of n slots
  pub right : (d : E) (i : ℕ) → i < n → expected (Home_of (entry_at entry_of slots d i)) ≡ Some (entry_at entry_of slots d i)
  pub all : (h : ℕ) (e : E) → expected h ≡ Some e → Present Home_of entry_of note_of n slots h

-- The same expectations, but x at the home h.
abbrev pub put : {E : Type 0} → (ℕ → Option E) → ℕ → Option E → ℕ → Option E
put expected h x k = cond (k == h) x (expected k)

-- How many homes below m have an expected entry.
abbrev pub expected_count : {E : Type 0} → (ℕ → Option E) → ℕ → ℕ
expected_count expected zero = 0
expected_count expected (suc m) = expected_count expected m + cond (is_some (expected m)) 1 0

-- What the head of the queue says: nothing is expected, or its entry is expected and at most every expected one.
abbrev pub LeastExpected : {E : Type 0} → (E → E → Bool) → (E → ℕ) → (ℕ → Option E) → Option E → Type 0
LeastExpected at_most Home_of expected None = (h : ℕ) → expected h ≡ None
LeastExpected {E} at_most Home_of expected (Some e) =
    (expected (Home_of e) ≡ Some e) × ((h : ℕ) (x : E) → expected h ≡ Some x → at_most e x ≡ true)
