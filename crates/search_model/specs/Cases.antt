-- Worked cases on small floors, each from place 0.
use Rattle.std.specs.Prelude.{◌≡◌, ℕ, List, [], ◌∷◌, Some, None, Option}
use Rattle.floors.specs.Guided.{Guided}
use Rattle.search_model.specs.declared.bound.Bound.{Bound}
use Rattle.search_model.specs.Records.{at}
use Rattle.search_model.specs.SmallFloors.{shut_at, six_places, four_places, no_goal, only_goal}
use Rattle.search_model.specs.Advance.{Answer, Barren, Settled, More, Outcome, going}
use Rattle.search_model.specs.Begin.{first_records, first_search, rebounded}
use Rattle.search_model.specs.Costs.{greatest_cost, most_expansions}
use Rattle.search_model.specs.Read.{Trail, read_route}

-- The bound a/b.
abbrev pub bound_of : ℕ → ℕ → Bound
bound_of a b = record { a = a; b = b }

-- A search from place 0: one advance from its begin.
abbrev pub searched : Guided → Bound → ℕ → Outcome
searched g bound budget = going g budget (first_search g 0 bound) (first_records g 0)

-- An advance under another bound after an outcome.
abbrev pub resumed : Guided → Bound → ℕ → Outcome → Outcome
resumed g bound budget o = going g budget (rebounded bound o.search_after) o.records

-- What is told of an outcome: answer, expanded places, low mark and total.
pub record Summary : Type 0 where
  pub answer : Answer
  pub places : List ℕ
  pub mark : Option ℕ
  pub total : ℕ

-- The summary of an outcome.
abbrev pub summary : Outcome → Summary
summary o = record { answer = o.answer; places = o.places; mark = o.mark; total = o.search_after.total }

-- A summary written out.
abbrev pub comes_to : Answer → List ℕ → Option ℕ → ℕ → Summary
comes_to answer places mark total = record { answer = answer; places = places; mark = mark; total = total }

-- The route to a goal as an outcome's records have it.
abbrev pub route_after : Guided → Outcome → ℕ → Option Trail
route_after g o goal = read_route g.floor o.search_after o.records goal

-- A trail written out.
abbrev pub trail : List ℕ → ℕ → Option Trail
trail places cost = Some (record { places = places; cost = cost })

-- What the six places cost: K is 5, so no search on them makes more than 6 × (5 × 5 + 1) expansions.
pub record SixPlaces : Type 0 where
  pub greatest : greatest_cost six_places.floor ≡ 5
  pub most : most_expansions six_places.floor ≡ 156

-- The six places at 3/2.
pub record ThreeHalves : Type 0 where
  pub run : summary (searched six_places (bound_of 3 2) 9) ≡ comes_to (Settled 5) (0 ∷ 2 ∷ 4 ∷ []) (Some 6) 3
  pub route : route_after six_places (searched six_places (bound_of 3 2) 9) 5 ≡ trail (0 ∷ 2 ∷ 4 ∷ 5 ∷ []) 6

-- At 2/1, and then at 1/1 over the same records.
pub record TwoThenOne : Type 0 where
  pub run : summary (searched six_places (bound_of 2 1) 9) ≡ comes_to (Settled 5) (0 ∷ 1 ∷ 3 ∷ []) (Some 4) 3
  pub route : route_after six_places (searched six_places (bound_of 2 1) 9) 5 ≡ trail (0 ∷ 1 ∷ 3 ∷ 5 ∷ []) 7
  pub then_run : summary (resumed six_places (bound_of 1 1) 9 (searched six_places (bound_of 2 1) 9)) ≡ comes_to (Settled 5) (2 ∷ 4 ∷ []) (Some 6) 5
  pub then_route :
      route_after six_places (resumed six_places (bound_of 1 1) 9 (searched six_places (bound_of 2 1) 9)) 5 ≡ trail (0 ∷ 2 ∷ 4 ∷ 5 ∷ []) 6

-- At 7/4 place 1 is within the bound by equality: 4 × 7 ≤ 7 × 4.
pub record SevenQuarters : Type 0 where
  pub run : (searched six_places (bound_of 7 4) 9).places ≡ 0 ∷ 1 ∷ 3 ∷ []

-- At 1/1 with place 4 shut.
pub record FourShut : Type 0 where
  pub run : (searched (shut_at 4 six_places) (bound_of 1 1) 9).places ≡ 0 ∷ 2 ∷ 1 ∷ 3 ∷ []
  pub route : route_after (shut_at 4 six_places) (searched (shut_at 4 six_places) (bound_of 1 1) 9) 5 ≡ trail (0 ∷ 1 ∷ 3 ∷ 5 ∷ []) 7

-- The four places at 10/1: the goal's label is 15 and its route costs 12.
pub record FourPlaces : Type 0 where
  pub run : summary (searched four_places (bound_of 10 1) 9) ≡ comes_to (Settled 3) (0 ∷ 1 ∷ 2 ∷ []) (Some 2) 3
  pub label : (at (searched four_places (bound_of 10 1) 9).records 3).label ≡ 15
  pub route : route_after four_places (searched four_places (bound_of 10 1) 9) 3 ≡ trail (0 ∷ 2 ∷ 1 ∷ 3 ∷ []) 12

-- One place: without a goal budget 0 gives more and budget 1 barren; as a goal it is settled at budget 0.
pub record OnePlace : Type 0 where
  pub unspent : summary (searched no_goal (bound_of 1 1) 0) ≡ comes_to More [] (Some 0) 0
  pub spent : summary (searched no_goal (bound_of 1 1) 1) ≡ comes_to Barren (0 ∷ []) None 1
  pub settled : summary (searched only_goal (bound_of 1 1) 0) ≡ comes_to (Settled 0) [] (Some 0) 0
  pub route : route_after only_goal (searched only_goal (bound_of 1 1) 0) 0 ≡ trail (0 ∷ []) 0

-- All of them.
pub record WorkedCases : Type 0 where
  pub six_places_cost : SixPlaces
  pub three_halves : ThreeHalves
  pub two_then_one : TwoThenOne
  pub seven_quarters : SevenQuarters
  pub four_shut_cases : FourShut
  pub four_places_cases : FourPlaces
  pub one_place : OnePlace
