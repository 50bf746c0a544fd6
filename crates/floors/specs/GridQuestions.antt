-- The questions put to a grid, and the number of each fault.
use Rattle.std.specs.Prelude.{ℕ, ◌&&◌, List, [], ◌∷◌, ◌==◌, nat_le, nat_lt}
use Rattle.floors.specs.declared.grid_fault.GridFault.{GridFault}
use Rattle.floors.specs.declared.grid_fault.GridFault.TheVariants.{Width, Height, Bytes, Goal}
use Rattle.floors.specs.declared.grid_shape.GridShape.{GridShape}
use Rattle.floors.specs.Grid.{area}
use Rattle.floors.specs.Questions.{Question}

abbrev pub grid_number : GridFault → ℕ
grid_number Width = 11
grid_number Height = 12
grid_number Bytes = 13
grid_number Goal = 14

-- 11 the width is 1 to 64; 12 the height is 1 to 64; 13 there are width × height bytes; 14 the goal is a place.
abbrev pub grid_questions : GridShape → ℕ → List Question
grid_questions s bytes =
    record { number = 11; yes = nat_le 1 s.width && nat_le s.width 64 }
    ∷ record { number = 12; yes = nat_le 1 s.height && nat_le s.height 64 }
    ∷ record { number = 13; yes = (bytes == area s) }
    ∷ record { number = 14; yes = nat_lt s.goal (area s) }
    ∷ []
