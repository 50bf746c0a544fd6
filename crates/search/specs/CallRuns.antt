-- Runs of the calls that are offered, with advances to the end among them, and the guarantee over them: what begin promises. Runs has
-- the same without advances to the end.
use Rattle.std.specs.Prelude.{◌≡◌, ℕ, List, [], ◌∷◌, ◌≢◌}
use Rattle.floors.specs.Guided.{Guided, SoundGuided}
use Rattle.floors.specs.Meaning.{Meaning}
use Rattle.search_model.specs.declared.bound.Bound.{Bound}
use Rattle.search_model.specs.declared.search.Search.{Search}
use Rattle.search_model.specs.Advance.{More}
use Rattle.table.specs.declared.node.Node.{Node}
use Rattle.search.specs.Calls.{Told, told, refused, ReboundDone, ReadDone, Begun}
use Rattle.search.specs.Reports.{AdvanceReport, AdvanceReported, EndDone, end_budget}
use Rattle.search.specs.Runs.{State, running, settled, left_by, rebounded_to, TurnsPromise, RoutePromise}

-- After an advance; a refused one leaves the search running as it was.
abbrev pub reported_to : Told AdvanceReport → Search → List Node → State
reported_to (told a) s t = left_by a.answer a.search_after t
reported_to (refused number) s t = running s t

-- What a call made known.
pub data CallEvent : Type 0 where
  advanced : (budget : ℕ) → Told AdvanceReport → CallEvent
  ended : Told AdvanceReport → CallEvent
  rebound : Bound → Told Search → CallEvent
  read : (list : List ℕ) → Told (ℕ × ℕ) → (list' : List ℕ) → CallEvent

-- Calls one after another, each with what it promises: any budget, any bound, any list, refused ones among them; nothing else
-- touches the search or its table.
pub data CallRun (g : Guided) : State → List CallEvent → State → Type 0 where
  done : {z : State} → CallRun g z [] z
  by_advance :
      {z : State} {es : List CallEvent} (budget : ℕ) (s : Search) (t : List Node) (a : Told AdvanceReport) (t' : List Node)
      → AdvanceReported g s budget t a t'
      → CallRun g (reported_to a s t') es z
      → CallRun g (running s t) (advanced budget a ∷ es) z
  by_end :
      {z : State} {es : List CallEvent} (s : Search) (t : List Node) (a : Told AdvanceReport) (t' : List Node)
      → EndDone g s t a t'
      → CallRun g (reported_to a s t') es z
      → CallRun g (running s t) (ended a ∷ es) z
  by_rebound :
      {z : State} {es : List CallEvent} (bound : Bound) (s : Search) (t : List Node) (a : Told Search) (t' : List Node)
      → ReboundDone s bound t a t'
      → CallRun g (rebounded_to a (running s t') t') es z
      → CallRun g (running s t) (rebound bound a ∷ es) z
  by_settled_rebound :
      {z : State} {es : List CallEvent} (bound : Bound) (n : ℕ) (s : Search) (t : List Node) (a : Told Search) (t' : List Node)
      → ReboundDone s bound t a t'
      → CallRun g (rebounded_to a (settled n s t') t') es z
      → CallRun g (settled n s t) (rebound bound a ∷ es) z
  by_read :
      {z : State} {es : List CallEvent} (n : ℕ) (s : Search) (t : List Node) (list : List ℕ) (a : Told (ℕ × ℕ)) (list' : List ℕ)
      → ReadDone g.floor s n t list a list'
      → CallRun g (settled n s t) es z
      → CallRun g (settled n s t) (read list a list' ∷ es) z

-- An accepted advance, with the total before it.
abbrev pub ReportPromise : Meaning → ℕ → ℕ → ℕ → AdvanceReport → Type 0
ReportPromise m start total budget a = TurnsPromise m start total budget a.answer a.mark a.spent a.total

-- The guarantee of every event, under the bound set last and with the total so far. An advance to the end is never refused and
-- never answers more; the other calls are refused only by 35, 32 and 38.
abbrev pub CallsGuaranteed : Meaning → ℕ → Bound → ℕ → List CallEvent → Type 0
CallsGuaranteed m start bound total [] = Unit {0}
CallsGuaranteed m start bound total (advanced budget (told a) ∷ es) =
    ReportPromise m start total budget a × CallsGuaranteed m start bound a.total es
CallsGuaranteed m start bound total (advanced budget (refused number) ∷ es) = (number ≡ 35) × CallsGuaranteed m start bound total es
CallsGuaranteed m start bound total (ended (told a) ∷ es) =
    ReportPromise m start total end_budget a × (a.answer ≢ More) × CallsGuaranteed m start bound a.total es
CallsGuaranteed m start bound total (ended (refused number) ∷ es) = ⊥
CallsGuaranteed m start bound total (rebound new (told s) ∷ es) = CallsGuaranteed m start new total es
CallsGuaranteed m start bound total (rebound new (refused number) ∷ es) = (number ≡ 32) × CallsGuaranteed m start bound total es
CallsGuaranteed m start bound total (read list (told p) list' ∷ es) = RoutePromise m start bound list p list' × CallsGuaranteed m start bound total es
CallsGuaranteed m start bound total (read list (refused number) list' ∷ es) = (number ≡ 38) × (list' ≡ list) × CallsGuaranteed m start bound total es

-- After an accepted begin over a sound floor every run keeps the guarantee.
abbrev pub CallsKept : Guided → ℕ → Bound → Told Search → List Node → Type 0
CallsKept g start bound (told s) t' = (es : List CallEvent) (z : State) → CallRun g (running s t') es z → CallsGuaranteed g.floor start bound 0 es
CallsKept g start bound (refused number) t' = Unit {0}

abbrev pub CallsGuarantee : Type 0
CallsGuarantee =
    (g : Guided) (start : ℕ) (bound : Bound) (t : List Node) (a : Told Search) (t' : List Node)
    → SoundGuided g
    → Begun g start bound t a t'
    → CallsKept g start bound a t'
