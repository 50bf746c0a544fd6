-- A grid of two cells, worked through.
use Rattle.std.specs.Prelude.{◌≡◌, ℕ, true, false, List, [], ◌∷◌, None}
use Rattle.floors.specs.declared.grid_shape.GridShape.{GridShape}
use Rattle.floors.specs.Grid.{grid_floor, grid_guesses}
use Rattle.floors.specs.GridQuestions.{grid_questions}
use Rattle.floors.specs.Guided.{Guided, guided}
use Rattle.floors.specs.Listing.{leg_to, listing}
use Rattle.floors.specs.Questions.{first_no}

-- Two cells in one row, of bytes 3 and 5; the second is the goal.
abbrev pub two_cells : List ℕ
two_cells = 3 ∷ 5 ∷ []

abbrev pub two_by_one : GridShape
two_by_one = record { width = 2; height = 1; goal = 1 }

abbrev two_floor : Guided
two_floor = guided (grid_floor two_cells two_by_one) (grid_guesses two_cells two_by_one)

-- The grid is accepted; at place 0 the estimates are 3, 4 and 1, and the floor is this.
pub record TwoCells : Type 0 where
  pub accepts : first_no (grid_questions two_by_one 2) ≡ None
  pub low : two_floor.floor.low 0 ≡ 3
  pub hope : two_floor.hope 0 ≡ 4
  pub steps : two_floor.steps 0 ≡ 1
  pub means : listing two_floor
      ≡ record { low = 3; hope = 4; steps = 1; goal = false; legs = None ∷ leg_to 1 5 ∷ None ∷ None ∷ [] }
      ∷ record { low = 0; hope = 0; steps = 0; goal = true; legs = None ∷ None ∷ None ∷ leg_to 0 3 ∷ [] }
      ∷ []
