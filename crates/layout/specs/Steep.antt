-- Legs along which an estimate falls by more than the leg's cost, over any floor.
use Rattle.std.specs.Prelude.{◌≡◌, ℕ, ◌+◌, ◌<◌, Bool, true, false, Some, None, Option, nat_lt}
use Rattle.floors.specs.declared.leg.Leg.{Leg}
use Rattle.floors.specs.Meaning.{Meaning}

-- From place p, along a leg that may be barred, the estimate falls by more than the leg's cost.
abbrev pub falls_short : (ℕ → ℕ) → ℕ → Option Leg → Bool
falls_short low p None = false
falls_short low p (Some l) = nat_lt (l.cost + low l.target) (low p)

-- No leg of the places below p does so.
abbrev pub Gentle : Meaning → (ℕ → ℕ) → ℕ → Type 0
Gentle m low p = (q k : ℕ) → q < p → k < m.count q → falls_short low q (m.leg q k) ≡ false

-- None of the first n legs of place p does so.
abbrev pub GentleAt : Meaning → (ℕ → ℕ) → ℕ → ℕ → Type 0
GentleAt m low p n = (k : ℕ) → k < n → falls_short low p (m.leg p k) ≡ false

-- The first leg that does so, by place and then by number.
abbrev pub FirstSteep : Meaning → (ℕ → ℕ) → Option (ℕ × ℕ) → Type 0
FirstSteep m low None = Gentle m low m.size
FirstSteep m low (Some at) =
    (at.0 < m.size) × (at.1 < m.count at.0) × (falls_short low at.0 (m.leg at.0 at.1) ≡ true)
    × Gentle m low at.0 × GentleAt m low at.0 at.1
