-- What a floor means.
use Rattle.std.specs.Prelude.{ℕ, Bool, Option}
use Rattle.floors.specs.declared.leg.Leg.{Leg}

-- How many places there are, numbered from 0; and for each place how many legs it has, each leg by its number
-- (None where it is barred), whether it is a goal, and its low estimate of the cost to a goal.
pub record Meaning : Type 0 where
  pub size : ℕ
  pub count : ℕ → ℕ
  pub leg : ℕ → ℕ → Option Leg
  pub goal : ℕ → Bool
  pub low : ℕ → ℕ

-- The same floor with other legs.
abbrev pub with_legs : Meaning → (ℕ → ℕ → Option Leg) → Meaning
with_legs m leg = record { size = m.size; count = m.count; leg = leg; goal = m.goal; low = m.low }
