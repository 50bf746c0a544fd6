-- A test on single legs and goals that gives the law over all routes.
use Rattle.std.specs.Prelude.{◌≡◌, ℕ, ◌+◌, ◌≤◌, true, List, [], ◌∷◌, Some}
use Rattle.std.proofs.Common.{subst, arith}
use Rattle.floors.specs.declared.leg.Leg.{Leg}
use Rattle.floors.specs.Meaning.{Meaning}
use Rattle.floors.specs.Route.{Route, last, alone, onward}
use Rattle.floors.specs.Sound.{Admissible}

-- Goals have a low estimate of 0, and along no usable leg does the low estimate fall by more than the leg's cost.
pub record Consistent (m : Meaning) : Type 0 where
  pub goals : (p : ℕ) → m.goal p ≡ true → m.low p ≡ 0
  pub legs : (p k : ℕ) (l : Leg) → m.leg p k ≡ Some l → m.low p ≤ l.cost + m.low l.target

-- Along a route to a goal the estimate falls by no more than the route's cost.
falls : (m : Meaning) → Consistent m → (p : ℕ) (qs : List ℕ) (c : ℕ) → Route m p qs c → m.goal (last p qs) ≡ true → m.low p ≤ c
falls m h p [] c (alone on zero-cost) goal = omega (arith, h.goals p goal)
falls m h p (q ∷ qs) c (onward k l d usable to route cost) goal =
    let further : m.low q ≤ d = falls m h q qs d route goal in
    let step : m.low p ≤ l.cost + m.low q = subst (λ t. m.low p ≤ l.cost + m.low t) to (h.legs p k l usable) in
    omega arith

-- A consistent estimate is admissible.
pub consistent_admissible : (m : Meaning) → Consistent m → Admissible m
consistent_admissible m h p c r = falls m h p r.places c r.route r.ends
