-- Runs of a search, and the guarantee over them.
use Rattle.std.specs.Prelude.{◌≡◌, ℕ, ◌<◌, List, [], ◌∷◌, Option}
use Rattle.floors.specs.Meaning.{Meaning}
use Rattle.floors.specs.Guided.{Guided, SoundGuided}
use Rattle.search_model.specs.declared.bound.Bound.{Bound}
use Rattle.search_model.specs.declared.records.Record.{Record}
use Rattle.search_model.specs.declared.search.Search.{Search}
use Rattle.search_model.specs.Advance.{Answer, Barren, Settled, More, Outcome, going}
use Rattle.search_model.specs.Begin.{first_records, first_search, rebounded}
use Rattle.search_model.specs.Read.{Trail, read_route}
use Rattle.search_model.specs.Costs.{ValidBound}
use Rattle.search_model.specs.Guarantee.{AdvanceLaw, ReadLaw}

-- A search runs, or is settled on a goal, or is barren and takes no further call.
pub data State : Type 0 where
  running : Search → List Record → State
  settled : ℕ → Search → List Record → State
  barren : State

-- Where an answer leaves a search.
abbrev pub left_by : Answer → Search → List Record → State
left_by Barren s records = barren
left_by (Settled n) s records = settled n s records
left_by More s records = running s records

-- What a call made known: the budget and outcome of an advance, the new bound, or what was read of which goal.
pub data Event : Type 0 where
  advanced : ℕ → Outcome → Event
  bound_set : Bound → Event
  route_read : ℕ → Option Trail → Event

-- Calls one after another: advance of any budget, rebound to any valid bound of a running or settled search, read of a settled one.
pub data Run (g : Guided) : State → List Event → State → Type 0 where
  done : {z : State} → Run g z [] z
  advance :
      {z : State} {es : List Event} (budget : ℕ) (s : Search) (t : List Record) (o : Outcome)
      → o ≡ going g budget s t
      → Run g (left_by o.answer o.search_after o.records) es z
      → Run g (running s t) (advanced budget o ∷ es) z
  rebound_running :
      {z : State} {es : List Event} (bound : Bound) (s : Search) (t : List Record)
      → ValidBound bound
      → Run g (running (rebounded bound s) t) es z
      → Run g (running s t) (bound_set bound ∷ es) z
  rebound_settled :
      {z : State} {es : List Event} (bound : Bound) (n : ℕ) (s : Search) (t : List Record)
      → ValidBound bound
      → Run g (running (rebounded bound s) t) es z
      → Run g (settled n s t) (bound_set bound ∷ es) z
  read :
      {z : State} {es : List Event} (n : ℕ) (s : Search) (t : List Record) (r : Option Trail)
      → r ≡ read_route g.floor s t n
      → Run g (settled n s t) es z
      → Run g (settled n s t) (route_read n r ∷ es) z

-- The guarantee of every event, under the bound set last and with the total so far.
abbrev pub Guaranteed : Meaning → ℕ → Bound → ℕ → List Event → Type 0
Guaranteed m start bound total [] = Unit {0}
Guaranteed m start bound total (advanced budget o ∷ es) = AdvanceLaw m start bound total budget o × Guaranteed m start bound o.search_after.total es
Guaranteed m start bound total (bound_set b ∷ es) = Guaranteed m start b total es
Guaranteed m start bound total (route_read n r ∷ es) = ReadLaw m start bound n r × Guaranteed m start bound total es

-- Every run from the begin of a search on a sound floor keeps the guarantee.
abbrev pub Guarantee : Type 0
Guarantee =
    (g : Guided) (start : ℕ) (bound : Bound) (es : List Event) (z : State)
    → SoundGuided g
    → start < g.floor.size
    → ValidBound bound
    → Run g (running (first_search g start bound) (first_records g start)) es z
    → Guaranteed g.floor start bound 0 es
