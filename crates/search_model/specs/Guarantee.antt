-- What each answer of a search guarantees.
use Rattle.std.specs.Prelude.{◌≡◌, ℕ, ◌+◌, ◌<◌, ◌≤◌, true, false, List, ◌∷◌, length, is_some, Some, None, Option}
use Rattle.floors.specs.Meaning.{Meaning}
use Rattle.floors.specs.Route.{Route, ToGoal, last}
use Rattle.search_model.specs.declared.bound.Bound.{Bound}
use Rattle.search_model.specs.declared.records.Record.{Record}
use Rattle.search_model.specs.Records.{at, Seen}
use Rattle.search_model.specs.Expansion.{greatest_total}
use Rattle.search_model.specs.Advance.{Answer, Barren, Settled, More, Outcome, expansions}
use Rattle.search_model.specs.Read.{Trail}
use Rattle.search_model.specs.Costs.{Bounded, most_expansions}

-- No route leads from the start to a goal.
abbrev pub NoRoute : Meaning → ℕ → Type 0
NoRoute m start = (c : ℕ) → ToGoal m start c → ⊥

-- A settled goal: a goal, seen, with a label within the bound, to which a route leads.
pub record SettledLaw (m : Meaning) (start : ℕ) (bound : Bound) (records : List Record) (n : ℕ) : Type 0 where
  pub is_goal : m.goal n ≡ true
  pub seen : Seen records n
  pub bounded : Bounded m start bound (at records n).label
  pub reachable : (qs : List ℕ) × (c : ℕ) × Route m start qs c × (last start qs ≡ n)

-- Barren only where there is no route to a goal, settled only where there is one.
abbrev pub AnswerLaw : Meaning → ℕ → Bound → List Record → Answer → Type 0
AnswerLaw m start bound records Barren = NoRoute m start
AnswerLaw m start bound records (Settled n) = SettledLaw m start bound records n
AnswerLaw m start bound records More = Unit {0}

-- The low mark is absent when barren, and only then.
abbrev pub MarkLaw : Answer → Option ℕ → Type 0
MarkLaw Barren mark = is_some mark ≡ false
MarkLaw (Settled n) mark = is_some mark ≡ true
MarkLaw More mark = is_some mark ≡ true

-- An advance under a bound, with a total before it and a budget: its answer is right, its low mark is at most the cost of
-- every route to a goal, more comes only after the whole budget was expanded, and the total is exact and at most S × (K × (S − 1) + 1).
pub record AdvanceLaw (m : Meaning) (start : ℕ) (bound : Bound) (total budget : ℕ) (o : Outcome) : Type 0 where
  pub answered : AnswerLaw m start bound o.records o.answer
  pub marked : MarkLaw o.answer o.mark
  pub mark_below : (mark : ℕ) → o.mark ≡ Some mark → (c : ℕ) → ToGoal m start c → mark ≤ c
  pub spent : o.answer ≡ More → expansions o ≡ budget
  pub affordable : expansions o ≤ budget
  pub exact : o.search_after.total ≡ total + expansions o
  pub few : o.search_after.total ≤ most_expansions m
  pub uncapped : o.search_after.total < greatest_total

-- A route read to a settled goal: it goes from the start through these places to the goal at this cost, within the bound.
pub record RouteLaw (m : Meaning) (start : ℕ) (bound : Bound) (n : ℕ) (w : Trail) : Type 0 where
  pub rest : List ℕ
  pub places : w.places ≡ start ∷ rest
  pub route : Route m start rest w.cost
  pub ends : last start rest ≡ n
  pub is_goal : m.goal n ≡ true
  pub few : length w.places ≤ m.size
  pub bounded : Bounded m start bound w.cost

-- Something is read, and it is such a route.
abbrev pub ReadLaw : Meaning → ℕ → Bound → ℕ → Option Trail → Type 0
ReadLaw m start bound n None = ⊥
ReadLaw m start bound n (Some w) = RouteLaw m start bound n w
