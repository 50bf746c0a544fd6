-- Runs of a search over its table, and the guarantee over them.
use Rattle.std.specs.Prelude.{◌≡◌, ℕ, ◌+◌, ◌<◌, ◌≤◌, true, List, [], ◌∷◌, ◌++◌, length, drop, Some, Option}
use Rattle.floors.specs.Guided.{Guided, SoundGuided}
use Rattle.floors.specs.Meaning.{Meaning}
use Rattle.floors.specs.Route.{Route, ToGoal, last}
use Rattle.search_model.specs.declared.bound.Bound.{Bound}
use Rattle.search_model.specs.declared.search.Search.{Search}
use Rattle.search_model.specs.Advance.{Answer, Barren, Settled, More}
use Rattle.search_model.specs.Costs.{Bounded, most_expansions}
use Rattle.search_model.specs.Expansion.{greatest_total}
use Rattle.search_model.specs.Guarantee.{NoRoute, MarkLaw}
use Rattle.table.specs.declared.node.Node.{Node}
use Rattle.search.specs.Calls.{Told, told, refused, Advance, AdvanceDone, ReboundDone, ReadDone, Begun}

-- A search and its table: running, settled on a goal, or barren, which takes no further call.
pub data State : Type 0 where
  running : Search → List Node → State
  settled : ℕ → Search → List Node → State
  barren : State

-- Where an answer leaves a search.
abbrev pub left_by : Answer → Search → List Node → State
left_by Barren s t = barren
left_by (Settled n) s t = settled n s t
left_by More s t = running s t

-- After an advance; a refused one leaves the search running as it was.
abbrev pub advanced_to : Told Advance → Search → List Node → State
advanced_to (told a) s t = left_by a.answer a.search_after t
advanced_to (refused number) s t = running s t

-- After a rebound the search is running; a refused one leaves it as it was.
abbrev pub rebounded_to : Told Search → State → List Node → State
rebounded_to (told s) before t = running s t
rebounded_to (refused number) before t = before

-- What a call made known.
pub data Event : Type 0 where
  advanced : (budget : ℕ) → Told Advance → Event
  rebound : Bound → Told Search → Event
  read : (list : List ℕ) → Told (ℕ × ℕ) → (list' : List ℕ) → Event

-- Calls one after another, each with what it promises: any budget, any bound, any list, refused ones among them; nothing else
-- touches the search or its table.
pub data Run (g : Guided) : State → List Event → State → Type 0 where
  done : {z : State} → Run g z [] z
  by_advance :
      {z : State} {es : List Event} (budget : ℕ) (s : Search) (t : List Node) (a : Told Advance) (t' : List Node)
      → AdvanceDone g s budget t a t'
      → Run g (advanced_to a s t') es z
      → Run g (running s t) (advanced budget a ∷ es) z
  by_rebound :
      {z : State} {es : List Event} (bound : Bound) (s : Search) (t : List Node) (a : Told Search) (t' : List Node)
      → ReboundDone s bound t a t'
      → Run g (rebounded_to a (running s t') t') es z
      → Run g (running s t) (rebound bound a ∷ es) z
  by_settled_rebound :
      {z : State} {es : List Event} (bound : Bound) (n : ℕ) (s : Search) (t : List Node) (a : Told Search) (t' : List Node)
      → ReboundDone s bound t a t'
      → Run g (rebounded_to a (settled n s t') t') es z
      → Run g (settled n s t) (rebound bound a ∷ es) z
  by_read :
      {z : State} {es : List Event} (n : ℕ) (s : Search) (t : List Node) (list : List ℕ) (a : Told (ℕ × ℕ)) (list' : List ℕ)
      → ReadDone g.floor s n t list a list'
      → Run g (settled n s t) es z
      → Run g (settled n s t) (read list a list' ∷ es) z

-- Barren only where no route leads to a goal, settled only at a goal to which one leads, more only after the whole budget.
abbrev pub AnswerPromise : Meaning → ℕ → ℕ → ℕ → Answer → Type 0
AnswerPromise m start budget spent Barren = NoRoute m start
AnswerPromise m start budget spent (Settled n) = (m.goal n ≡ true) × ((c : ℕ) × ToGoal m start c)
AnswerPromise m start budget spent More = spent ≡ budget

-- Turns up to a budget by what they told, with the total before them and after.
pub record TurnsPromise (m : Meaning) (start total budget : ℕ) (answer : Answer) (mark : Option ℕ) (spent total_after : ℕ) : Type 0 where
  pub answered : AnswerPromise m start budget spent answer
  pub marked : MarkLaw answer mark
  pub mark_below : (low c : ℕ) → mark ≡ Some low → ToGoal m start c → low ≤ c
  pub affordable : spent ≤ budget
  pub exact : total_after ≡ total + spent
  pub few : total_after ≤ most_expansions m
  pub uncapped : total_after < greatest_total

-- An accepted advance, with the total before it.
abbrev pub AdvancePromise : Meaning → ℕ → ℕ → ℕ → Advance → Type 0
AdvancePromise m start total budget a = TurnsPromise m start total budget a.answer a.mark a.spent a.search_after.total

-- A route read under a bound: the list begins with the places of a route from the start to a goal at the cost told, and
-- b × that cost is at most a × the cost of every route from the start to a goal. The rest of the list is as it was.
pub record RoutePromise (m : Meaning) (start : ℕ) (bound : Bound) (list : List ℕ) (told_pair : ℕ × ℕ) (list' : List ℕ) : Type 0 where
  pub places : List ℕ
  pub route : Route m start places told_pair.1
  pub ends : m.goal (last start places) ≡ true
  pub counted : told_pair.0 ≡ length (start ∷ places)
  pub few : told_pair.0 ≤ m.size
  pub listed : list' ≡ (start ∷ places) ++ drop told_pair.0 list
  pub bounded : Bounded m start bound told_pair.1

-- The guarantee of every event, under the bound set last and with the total so far. Calls are refused only by 35, 32 and 38.
abbrev pub Guaranteed : Meaning → ℕ → Bound → ℕ → List Event → Type 0
Guaranteed m start bound total [] = Unit {0}
Guaranteed m start bound total (advanced budget (told a) ∷ es) =
    AdvancePromise m start total budget a × Guaranteed m start bound a.search_after.total es
Guaranteed m start bound total (advanced budget (refused number) ∷ es) = (number ≡ 35) × Guaranteed m start bound total es
Guaranteed m start bound total (rebound new (told s) ∷ es) = Guaranteed m start new total es
Guaranteed m start bound total (rebound new (refused number) ∷ es) = (number ≡ 32) × Guaranteed m start bound total es
Guaranteed m start bound total (read list (told p) list' ∷ es) = RoutePromise m start bound list p list' × Guaranteed m start bound total es
Guaranteed m start bound total (read list (refused number) list' ∷ es) = (number ≡ 38) × (list' ≡ list) × Guaranteed m start bound total es

-- After an accepted begin over a sound floor every run keeps the guarantee.
abbrev pub Kept : Guided → ℕ → Bound → Told Search → List Node → Type 0
Kept g start bound (told s) t' = (es : List Event) (z : State) → Run g (running s t') es z → Guaranteed g.floor start bound 0 es
Kept g start bound (refused number) t' = Unit {0}

abbrev pub Guarantee : Type 0
Guarantee =
    (g : Guided) (start : ℕ) (bound : Bound) (t : List Node) (a : Told Search) (t' : List Node)
    → SoundGuided g
    → Begun g start bound t a t'
    → Kept g start bound a t'
