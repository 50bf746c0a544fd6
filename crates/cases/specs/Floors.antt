-- The floors of the worked cases.
use Rattle.std.specs.Prelude.{true, false, List, [], ◌∷◌, length, get_or, None, slice_index_or}
use Rattle.floors.specs.Guided.{Guesses, Guided, guided}
use Rattle.floors.specs.Listing.{Listed, leg_to}
use Rattle.floors.specs.Meaning.{Meaning}
use Rattle.floors.specs.Shut.{shut_floor}
use Rattle.layout.specs.Layout.{counts, floor_of, guesses_of}
use Rattle.layout.specs.Sample.{six_places}
use Rattle.layout.specs.ShutSample.{four_shut}

-- The floor and the guesses of the sample layout.
abbrev pub six_meaning : Meaning
six_meaning = floor_of (six_places 3) (counts (six_places 3))

abbrev pub six_guesses : Guesses
six_guesses = guesses_of (six_places 3) (counts (six_places 3))

-- The six places; the least cost from place 0 to the goal 5 is 6.
abbrev pub six : Guided
six = guided six_meaning six_guesses

-- The six places with place 4 shut.
abbrev pub six_four_shut : Guided
six_four_shut = guided (shut_floor four_shut six_meaning) six_guesses

-- What is listed of a place off the floor.
abbrev pub no_listed : Listed
no_listed = record { low = 0; hope = 0; steps = 0; goal = false; legs = [] }

-- The guided floor of a list of places.
abbrev pub floor_of_list : List Listed → Guided
floor_of_list listed =
    record {
      floor =
          record {
            size = length listed;
            count = λ p. length (get_or listed p no_listed).legs;
            leg = λ p k. slice_index_or (get_or listed p no_listed).legs k None;
            goal = λ p. (get_or listed p no_listed).goal;
            low = λ p. (get_or listed p no_listed).low;
          };
      hope = λ p. (get_or listed p no_listed).hope;
      steps = λ p. (get_or listed p no_listed).steps;
    }

-- Four places where a closed place is given a lesser label later, so that the route read costs less than the goal's label.
abbrev pub four : Guided
four =
    floor_of_list
    (record { low = 0; hope = 0; steps = 2; goal = false; legs = leg_to 1 5 ∷ leg_to 2 1 ∷ [] }
    ∷ record { low = 0; hope = 0; steps = 1; goal = false; legs = leg_to 3 10 ∷ [] }
    ∷ record { low = 0; hope = 9; steps = 2; goal = false; legs = leg_to 1 1 ∷ [] }
    ∷ record { low = 0; hope = 0; steps = 0; goal = true; legs = [] } ∷ [])

-- One place that is no goal.
abbrev pub no_goal : Guided
no_goal = floor_of_list (no_listed ∷ [])

-- One place that is a goal.
abbrev pub only_goal : Guided
only_goal = floor_of_list (record { low = 0; hope = 0; steps = 0; goal = true; legs = [] } ∷ [])
