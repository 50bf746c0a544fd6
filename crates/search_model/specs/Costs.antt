-- What routes cost and how much work a search is.
use Rattle.std.specs.Prelude.{ℕ, zero, suc, ◌+◌, ◌-◌, ◌*◌, ◌≤◌, max, Some, None, Option}
use Rattle.floors.specs.declared.leg.Leg.{Leg}
use Rattle.floors.specs.Meaning.{Meaning}
use Rattle.floors.specs.Route.{ToGoal}
use Rattle.search_model.specs.declared.bound.Bound.{Bound}

-- The greatest of the first n values; 0 if there are none.
abbrev pub most : (ℕ → ℕ) → ℕ → ℕ
most value zero = 0
most value (suc n) = max (most value n) (value n)

-- The cost of a leg; 0 where it is barred.
abbrev pub leg_cost : Option Leg → ℕ
leg_cost None = 0
leg_cost (Some l) = l.cost

-- K: the greatest cost of a usable leg, or 0 if there is none.
abbrev pub greatest_cost : Meaning → ℕ
greatest_cost m = most (λ p. most (λ k. leg_cost (m.leg p k)) (m.count p)) m.size

-- No label is greater: K × (S − 1).
abbrev pub greatest_label : Meaning → ℕ
greatest_label m = greatest_cost m * (m.size - 1)

-- No search makes more expansions in all: S × (K × (S − 1) + 1).
abbrev pub most_expansions : Meaning → ℕ
most_expansions m = m.size * (greatest_label m + 1)

-- A bound of at least 1: 1 ≤ b ≤ a.
pub record ValidBound (bound : Bound) : Type 0 where
  pub positive : 1 ≤ bound.b
  pub ordered : bound.b ≤ bound.a

-- A cost is within the bound: b × the cost is at most a × the cost of every route from the start to a goal.
abbrev pub Bounded : Meaning → ℕ → Bound → ℕ → Type 0
Bounded m start bound cost = (c : ℕ) → ToGoal m start c → bound.b * cost ≤ bound.a * c
