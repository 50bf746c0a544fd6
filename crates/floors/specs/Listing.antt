-- A guided floor written out, place by place.
use Rattle.std.specs.Prelude.{ℕ, zero, suc, Bool, List, [], ◌∷◌, ◌++◌, Some, Option}
use Rattle.floors.specs.declared.leg.Leg.{Leg}
use Rattle.floors.specs.Guided.{Guided}

-- What is written of one place.
pub record Listed : Type 0 where
  pub low : ℕ
  pub hope : ℕ
  pub steps : ℕ
  pub goal : Bool
  pub legs : List (Option Leg)

-- A usable leg to that place at that cost.
abbrev pub leg_to : (target cost : ℕ) → Option Leg
leg_to target cost = Some (record { target = target; cost = cost })

-- The first n values of a function, in order.
abbrev pub first_of : {A : Type 0} → ℕ → (ℕ → A) → List A
first_of zero f = []
first_of (suc n) f = first_of n f ++ f n ∷ []

abbrev pub listing : Guided → List Listed
listing g = first_of g.floor.size (λ p. record {
  low = g.floor.low p;
  hope = g.hope p;
  steps = g.steps p;
  goal = g.floor.goal p;
  legs = first_of (g.floor.count p) (g.floor.leg p);
})
