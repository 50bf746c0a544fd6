-- Small floors, written out.
use Rattle.std.specs.Prelude.{ℕ, Bool, true, false, cond, List, [], ◌∷◌, length, get_or, Some, None, Option, ◌==◌, slice_index_or}
use Rattle.floors.specs.declared.leg.Leg.{Leg}
use Rattle.floors.specs.Guided.{Guided}

-- One place of a small floor, a row of its list.
pub record PlaceRow : Type 0 where
  pub low : ℕ
  pub hope : ℕ
  pub steps : ℕ
  pub goal : Bool
  pub legs : List (Option Leg)

-- The row of a place off the floor.
abbrev pub empty_row : PlaceRow
empty_row = record { low = 0; hope = 0; steps = 0; goal = false; legs = [] }

-- A place from its low, hope, steps, goal or not, and legs.
abbrev pub row : ℕ → ℕ → ℕ → Bool → List (Option Leg) → PlaceRow
row low hope steps goal legs = record { low = low; hope = hope; steps = steps; goal = goal; legs = legs }

-- A usable leg.
abbrev pub leg_to : ℕ → ℕ → Option Leg
leg_to target cost = Some (record { target = target; cost = cost })

-- The guided floor of a list of places.
abbrev pub floor_of_lists : List PlaceRow → Guided
floor_of_lists rows =
    record {
      floor =
          record {
            size = length rows;
            count = λ p. length (get_or rows p empty_row).legs;
            leg = λ p k. slice_index_or (get_or rows p empty_row).legs k None;
            goal = λ p. (get_or rows p empty_row).goal;
            low = λ p. (get_or rows p empty_row).low;
          };
      hope = λ p. (get_or rows p empty_row).hope;
      steps = λ p. (get_or rows p empty_row).steps;
    }

-- Six places; the least cost from place 0 to the goal 5 is 6.
abbrev pub six_places : Guided
six_places =
    floor_of_lists
    (row 4 6 3 false (leg_to 1 2 ∷ leg_to 2 1 ∷ [])
    ∷ row 4 5 2 false (leg_to 3 2 ∷ [])
    ∷ row 3 8 2 false (leg_to 3 5 ∷ leg_to 4 4 ∷ [])
    ∷ row 2 3 1 false (leg_to 5 3 ∷ [])
    ∷ row 1 1 1 false (leg_to 5 1 ∷ [])
    ∷ row 0 0 0 true [] ∷ [])

-- A leg, barred if it leads to the place.
abbrev pub unless_into : ℕ → Option Leg → Option Leg
unless_into place None = None
unless_into place (Some l) = cond (l.target == place) None (Some l)

-- The same floor with every leg into a place barred.
abbrev pub shut_at : ℕ → Guided → Guided
shut_at place g =
    record {
      floor =
          record {
            size = g.floor.size;
            count = g.floor.count;
            leg = λ p k. unless_into place (g.floor.leg p k);
            goal = g.floor.goal;
            low = g.floor.low;
          };
      hope = g.hope;
      steps = g.steps;
    }

-- Four places where a closed place is given a lesser label later, so that the route read costs less than the goal's label.
abbrev pub four_places : Guided
four_places =
    floor_of_lists
    (row 0 0 2 false (leg_to 1 5 ∷ leg_to 2 1 ∷ []) ∷ row 0 0 1 false (leg_to 3 10 ∷ []) ∷ row 0 9 2 false (leg_to 1 1 ∷ []) ∷ row 0 0 0 true [] ∷ [])

-- One place that is no goal.
abbrev pub no_goal : Guided
no_goal = floor_of_lists (row 0 0 0 false [] ∷ [])

-- One place that is a goal.
abbrev pub only_goal : Guided
only_goal = floor_of_lists (row 0 0 0 true [] ∷ [])
