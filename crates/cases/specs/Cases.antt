-- Worked cases on small floors, each search from place 0.
use Rattle.std.specs.Prelude.{◌≡◌, ℕ, List, [], ◌∷◌, Some, None}
use Rattle.floors.specs.GridSample.{TwoCells}
use Rattle.layout.specs.Sample.{SixPlaces}
use Rattle.layout.specs.ShutSample.{PlaceFourShut}
use Rattle.search_model.specs.Advance.{Barren, Settled, More}
use Rattle.search_model.specs.Costs.{greatest_cost, most_expansions}
use Rattle.search_model.specs.Records.{at}
use Rattle.cases.specs.Floors.{six, six_four_shut, four, no_goal, only_goal}
use Rattle.cases.specs.Searches.{bound_of, searched, resumed, summary, comes_to, route_after, trail}

-- What the six places cost: K is 5, so no search on them makes more than 6 × (5 × 5 + 1) expansions.
pub record SixPlacesCost : Type 0 where
  pub greatest : greatest_cost six.floor ≡ 5
  pub most : most_expansions six.floor ≡ 156

-- The places of the route of least cost in the six places, from 0 to the goal.
abbrev pub least_route : List ℕ
least_route = 0 ∷ 2 ∷ 4 ∷ 5 ∷ []

-- The six places at 3/2.
pub record ThreeHalves : Type 0 where
  pub run : summary (searched six (bound_of 3 2) 9) ≡ comes_to (Settled 5) (0 ∷ 2 ∷ 4 ∷ []) (Some 6) 3
  pub route : route_after six (searched six (bound_of 3 2) 9) 5 ≡ trail least_route 6

-- At 2/1, and then at 1/1 over the same records.
pub record TwoThenOne : Type 0 where
  pub run : summary (searched six (bound_of 2 1) 9) ≡ comes_to (Settled 5) (0 ∷ 1 ∷ 3 ∷ []) (Some 4) 3
  pub route : route_after six (searched six (bound_of 2 1) 9) 5 ≡ trail (0 ∷ 1 ∷ 3 ∷ 5 ∷ []) 7
  pub then_run : summary (resumed six (bound_of 1 1) 9 (searched six (bound_of 2 1) 9)) ≡ comes_to (Settled 5) (2 ∷ 4 ∷ []) (Some 6) 5
  pub then_route : route_after six (resumed six (bound_of 1 1) 9 (searched six (bound_of 2 1) 9)) 5 ≡ trail least_route 6

-- At 7/4 place 1 is within the bound by equality, 4 × 7 ≤ 7 × 4: a strict test would take place 2 second.
pub record SevenQuarters : Type 0 where
  pub run : (searched six (bound_of 7 4) 9).places ≡ 0 ∷ 1 ∷ 3 ∷ []

-- At 1/1 with place 4 shut.
pub record FourShut : Type 0 where
  pub run : (searched six_four_shut (bound_of 1 1) 9).places ≡ 0 ∷ 2 ∷ 1 ∷ 3 ∷ []
  pub route : route_after six_four_shut (searched six_four_shut (bound_of 1 1) 9) 5 ≡ trail (0 ∷ 1 ∷ 3 ∷ 5 ∷ []) 7

-- The four places at 10/1: the goal's label is 15 and its route costs 12.
pub record FourPlaces : Type 0 where
  pub run : summary (searched four (bound_of 10 1) 9) ≡ comes_to (Settled 3) (0 ∷ 1 ∷ 2 ∷ []) (Some 2) 3
  pub label : (at (searched four (bound_of 10 1) 9).records 3).label ≡ 15
  pub route : route_after four (searched four (bound_of 10 1) 9) 3 ≡ trail (0 ∷ 2 ∷ 1 ∷ 3 ∷ []) 12

-- One place: without a goal budget 0 gives more and budget 1 barren; as a goal it is settled at budget 0.
pub record OnePlace : Type 0 where
  pub unspent : summary (searched no_goal (bound_of 1 1) 0) ≡ comes_to More [] (Some 0) 0
  pub spent : summary (searched no_goal (bound_of 1 1) 1) ≡ comes_to Barren (0 ∷ []) None 1
  pub settled : summary (searched only_goal (bound_of 1 1) 0) ≡ comes_to (Settled 0) [] (Some 0) 0
  pub route : route_after only_goal (searched only_goal (bound_of 1 1) 0) 0 ≡ trail (0 ∷ []) 0

-- All of them: the sample layout, the sample with place 4 shut, the sample grid, and the searches.
pub record WorkedCases : Type 0 where
  pub sample : SixPlaces
  pub sample_shut : PlaceFourShut
  pub grid : TwoCells
  pub cost : SixPlacesCost
  pub three_halves : ThreeHalves
  pub two_then_one : TwoThenOne
  pub seven_quarters : SevenQuarters
  pub shut_search : FourShut
  pub four_places : FourPlaces
  pub one_place : OnePlace
