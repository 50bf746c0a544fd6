-- What a job guarantees.
use Rattle.std.specs.Prelude.{ℕ, List, Some, None, Option}
use Rattle.floors.specs.Guided.{Guided}
use Rattle.floors.specs.Meaning.{Meaning}
use Rattle.search_model.specs.declared.bound.Bound.{Bound}
use Rattle.search_model.specs.Advance.{Answer, Barren, Settled, More}
use Rattle.search_model.specs.Guarantee.{NoRoute}
use Rattle.table.specs.declared.node.Node.{Node}
use Rattle.search.specs.Runs.{State, left_by, RoutePromise}
use Rattle.search.specs.CallRuns.{CallEvent, CallRun, ReportPromise, CallsGuaranteed}
use Rattle.job.specs.Floors.{Answered}

-- A settled job has a route, within its bound of every route; the floor of a barren one has none.
abbrev pub RouteKept : Meaning → ℕ → Bound → List ℕ → List ℕ → Answer → Option (ℕ × ℕ) → Type 0
RouteKept m start bound list list' Barren route = NoRoute m start
RouteKept m start bound list list' (Settled n) None = ⊥
RouteKept m start bound list list' (Settled n) (Some pair) = RoutePromise m start bound list pair list'
RouteKept m start bound list list' More route = Unit {0}

-- What the advance and the route promise, and that every run of calls that goes on from the answer keeps the guarantee.
pub record JobKept (g : Guided) (start : ℕ) (bound : Bound) (budget : ℕ) (x : Answered) (t' : List Node) (list list' : List ℕ) : Type 0 where
  pub advanced : ReportPromise g.floor start 0 budget x.advance
  pub route : RouteKept g.floor start bound list list' x.advance.answer x.route
  pub onward :
      (es : List CallEvent) (z : State)
      → CallRun g (left_by x.advance.answer x.advance.search_after t') es z
      → CallsGuaranteed g.floor start bound x.advance.total es
