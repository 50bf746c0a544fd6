-- Searches from place 0 by the definition, and what is told of them.
use Rattle.std.specs.Prelude.{ℕ, List, Some, Option}
use Rattle.floors.specs.Guided.{Guided}
use Rattle.search_model.specs.declared.bound.Bound.{Bound}
use Rattle.search_model.specs.Advance.{Answer, Outcome, going}
use Rattle.search_model.specs.Begin.{first_records, first_search, rebounded}
use Rattle.search_model.specs.Read.{Trail, read_route}

-- The bound a/b.
abbrev pub bound_of : ℕ → ℕ → Bound
bound_of a b = record { a = a; b = b }

-- A search from place 0: one advance from its begin.
abbrev pub searched : Guided → Bound → ℕ → Outcome
searched g bound budget = going g budget (first_search g 0 bound) (first_records g 0)

-- An advance under another bound after an outcome.
abbrev pub resumed : Guided → Bound → ℕ → Outcome → Outcome
resumed g bound budget o = going g budget (rebounded bound o.search_after) o.records

-- What is told of an outcome: answer, expanded places, low mark and total.
pub record Summary : Type 0 where
  pub answer : Answer
  pub places : List ℕ
  pub mark : Option ℕ
  pub total : ℕ

-- The summary of an outcome.
abbrev pub summary : Outcome → Summary
summary o = record { answer = o.answer; places = o.places; mark = o.mark; total = o.search_after.total }

-- A summary written out.
abbrev pub comes_to : Answer → List ℕ → Option ℕ → ℕ → Summary
comes_to answer places mark total = record { answer = answer; places = places; mark = mark; total = total }

-- The route to a goal as an outcome's records have it.
abbrev pub route_after : Guided → Outcome → ℕ → Option Trail
route_after g o goal = read_route g.floor o.search_after o.records goal

-- A trail written out.
abbrev pub trail : List ℕ → ℕ → Option Trail
trail places cost = Some (record { places = places; cost = cost })
