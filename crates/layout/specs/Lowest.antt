-- The lowest record that fails a test.
use Rattle.std.specs.Prelude.{◌≡◌, ℕ, zero, suc, ◌<◌, Bool, true, false, cond, Some, None, Option}

-- The lowest number below n that fails, if there is one.
abbrev pub lowest : (ℕ → Bool) → ℕ → Option ℕ
lowest fails zero = None
lowest fails (suc n) = elim (lowest fails n) [ Some r ↦ Some r | None ↦ cond (fails n) (Some n) None ]

-- The same by what it is: a number that fails, while all below it pass; or none, where all pass.
abbrev pub IsLowest : (ℕ → Bool) → ℕ → Option ℕ → Type 0
IsLowest fails n None = (k : ℕ) → k < n → fails k ≡ false
IsLowest fails n (Some i) = (i < n) × (fails i ≡ true) × ((k : ℕ) → k < i → fails k ≡ false)

-- Each answer that a test gives is that of its definition.
abbrev pub Answers : (ℕ → Bool → Type 0) → (ℕ → Bool) → Type 0
Answers gives test = (r : ℕ) (b : Bool) → gives r b → b ≡ test r
