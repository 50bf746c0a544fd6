-- What every floor owes.
use Rattle.std.specs.Prelude.{◌≡◌, ℕ, ◌<◌, ◌≤◌, false, Some, None}
use Rattle.floors.specs.declared.leg.Leg.{Leg}
use Rattle.floors.specs.Meaning.{Meaning}
use Rattle.floors.specs.Route.{ToGoal}

-- The greatest estimate: 4,095 legs of cost 65,535.
abbrev pub limit : ℕ
limit = 268365825

-- 1 to 4,096 places, at most 65,535 legs a place, targets that are places, costs up to 65,535, estimates up to the limit.
pub record Limits (m : Meaning) : Type 0 where
  pub some_place : 1 ≤ m.size
  pub few_places : m.size ≤ 4096
  pub few_legs : (p : ℕ) → m.count p ≤ 65535
  pub targets : (p k : ℕ) (l : Leg) → m.leg p k ≡ Some l → l.target < m.size
  pub costs : (p k : ℕ) (l : Leg) → m.leg p k ≡ Some l → l.cost ≤ 65535
  pub lows : (p : ℕ) → m.low p ≤ limit

-- Off the floor there are no legs, no goals and only estimates of 0; past a place's list every leg is barred.
pub record Outside (m : Meaning) : Type 0 where
  pub no_legs : (p : ℕ) → m.size ≤ p → m.count p ≡ 0
  pub past_list : (p k : ℕ) → m.count p ≤ k → m.leg p k ≡ None
  pub no_goal : (p : ℕ) → m.size ≤ p → m.goal p ≡ false
  pub no_low : (p : ℕ) → m.size ≤ p → m.low p ≡ 0

-- The law: the low estimate of a place is at most the cost of every route from it to a goal.
abbrev pub Admissible : Meaning → Type 0
Admissible m = (p c : ℕ) → ToGoal m p c → m.low p ≤ c

-- What an implementation shows of its meaning: the limits, the answers off the floor, and the law.
pub record Sound (m : Meaning) : Type 0 where
  pub limits : Limits m
  pub outside : Outside m
  pub admissible : Admissible m
