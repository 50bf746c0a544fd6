-- Expansions up to a budget.
use Rattle.std.specs.Prelude.{ℕ, zero, suc, true, false, List, [], ◌∷◌, length, Some, None, Option}
use Rattle.floors.specs.Guided.{Guided}
use Rattle.search_model.specs.declared.records.Record.{Record}
use Rattle.search_model.specs.declared.search.Search.{Search}
use Rattle.search_model.specs.Records.{at, f}
use Rattle.search_model.specs.Choice.{low_place, choice}
use Rattle.search_model.specs.Expansion.{expanded, counted}

-- Barren: nothing is open. Settled: a goal is chosen. More: the budget is used up.
pub data Answer : Type 0 where
  Barren : Answer
  Settled : ℕ → Answer
  More : Answer

-- The answer of an advance, the places that it expanded in order, the low mark, and the search and the records afterwards.
pub record Outcome : Type 0 where
  pub answer : Answer
  pub places : List ℕ
  pub mark : Option ℕ
  pub search_after : Search
  pub records : List Record

-- How many expansions an advance made.
abbrev pub expansions : Outcome → ℕ
expansions o = length o.places

-- The low mark: f of low, and none where nothing is open.
abbrev pub low_mark : List Record → Option ℕ
low_mark records = elim (low_place records) [ None ↦ None | Some p ↦ Some (f (at records p)) ]

-- What a turn finds: nothing open, a goal chosen, or another place chosen.
pub data Turn : Type 0 where
  nothing : Turn
  goal : ℕ → Turn
  other : ℕ → Turn

-- The choice, told apart: none, a goal, or another place.
abbrev pub turn_at : Guided → Option ℕ → Turn
turn_at g None = nothing
turn_at g (Some n) = elim (g.floor.goal n) [ true ↦ goal n | false ↦ other n ]

-- The turn of a search: its choice by the low mark.
abbrev pub turn : Guided → Search → List Record → Turn
turn g s records = elim (low_mark records) [ None ↦ nothing | Some m ↦ turn_at g (choice s m records) ]

-- An advance that ends here.
abbrev pub stop : Answer → Search → List Record → Outcome
stop a s records = record { answer = a; places = []; mark = low_mark records; search_after = s; records = records }

-- An advance that expanded one more place before the rest.
abbrev pub after : ℕ → Outcome → Outcome
after n o = record { answer = o.answer; places = n ∷ o.places; mark = o.mark; search_after = o.search_after; records = o.records }

-- Turns until nothing is open, a goal is chosen or the budget is used up.
abbrev pub going : Guided → ℕ → Search → List Record → Outcome
going g zero s records =
    elim (turn g s records) [ nothing ↦ stop Barren s records | goal n ↦ stop (Settled n) s records | other n ↦ stop More s records ]
going g (suc budget) s records =
    elim (turn g s records) [
      | nothing ↦ stop Barren s records
      | goal n ↦ stop (Settled n) s records
      | other n ↦ after n (going g budget (counted s) (expanded g n records))
    ]
