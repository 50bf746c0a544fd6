-- Routes over a floor.
use Rattle.std.specs.Prelude.{◌≡◌, ℕ, ◌+◌, ◌<◌, true, List, [], ◌∷◌, Some}
use Rattle.floors.specs.declared.leg.Leg.{Leg}
use Rattle.floors.specs.Meaning.{Meaning}

-- A route from place p through the places qs, in that order, at cost c: one place alone costs 0, and
-- a usable leg to the next place adds its cost.
pub data Route (m : Meaning) : ℕ → List ℕ → ℕ → Type 0 where
  alone : {p c : ℕ} → p < m.size → c ≡ 0 → Route m p [] c
  onward : {p q c : ℕ} {qs : List ℕ} (k : ℕ) (l : Leg) (d : ℕ) → m.leg p k ≡ Some l → l.target ≡ q → Route m q qs d → c ≡ l.cost + d → Route m p (q ∷ qs) c

-- The place where a route from p through qs ends.
abbrev pub last : ℕ → List ℕ → ℕ
last p [] = p
last p (q ∷ qs) = last q qs

-- A route from place p to a goal at cost c.
pub record ToGoal (m : Meaning) (p c : ℕ) : Type 0 where
  pub places : List ℕ
  pub route : Route m p places c
  pub ends : m.goal (last p places) ≡ true
