-- The six places with place 4 shut, worked through.
use Rattle.std.specs.Prelude.{◌≡◌, ℕ, Bool, List, [], ◌∷◌, None, Option}
use Rattle.floors.specs.declared.leg.Leg.{Leg}
use Rattle.floors.specs.Listing.{leg_to, first_of}
use Rattle.floors.specs.Meaning.{Meaning}
use Rattle.floors.specs.Questions.{first_no}
use Rattle.floors.specs.Shut.{no_places, shut_floor}
use Rattle.floors.specs.ShutQuestions.{shut_questions, after_shut}
use Rattle.layout.specs.Layout.{counts, floor_of}
use Rattle.layout.specs.Sample.{six_places}

-- The floor of the sample, and the set after place 4 is shut.
abbrev six_floor : Meaning
six_floor = floor_of (six_places 3) (counts (six_places 3))

abbrev pub four_shut : List Bool
four_shut = after_shut six_floor.size no_places 4

abbrev legs_at : Meaning → ℕ → List (Option Leg)
legs_at m p = first_of (m.count p) (m.leg p)

-- Shutting place 4 is accepted; of the two legs of place 2 it bars leg 1 and leaves leg 0 as it was.
pub record PlaceFourShut : Type 0 where
  pub accepts : first_no (shut_questions six_floor.size no_places 4) ≡ None
  pub before : legs_at six_floor 2 ≡ leg_to 3 5 ∷ leg_to 4 4 ∷ []
  pub after : legs_at (shut_floor four_shut six_floor) 2 ≡ leg_to 3 5 ∷ None ∷ []
