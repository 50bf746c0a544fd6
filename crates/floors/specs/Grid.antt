-- The grid floor: cells in rows, one byte a cell, one goal.
use Rattle.std.specs.Prelude.{ℕ, ◌+◌, ◌-◌, ◌*◌, ◌/◌, ◌%◌, min, max, cond, List, Some, None, fold, Option, ◌==◌, nat_lt, slice_index}
use Rattle.floors.specs.declared.leg.Leg.{Leg}
use Rattle.floors.specs.declared.grid_shape.Direction.{Direction}
use Rattle.floors.specs.declared.grid_shape.Direction.TheVariants.{North, East, South, West}
use Rattle.floors.specs.declared.grid_shape.GridShape.{GridShape}
use Rattle.floors.specs.declared.grid_shape.Position.{Position}
use Rattle.floors.specs.Guided.{Guesses}
use Rattle.floors.specs.Meaning.{Meaning}

-- How many places there are.
abbrev pub area : GridShape → ℕ
area s = s.width * s.height

-- Place = row × width + column.
abbrev pub place_at : GridShape → Position → ℕ
place_at s at = at.row * s.width + at.column

abbrev pub position : GridShape → ℕ → Position
position s p = record { row = p / s.width; column = p % s.width }

-- Legs 0 to 3 go north, east, south and west.
abbrev pub direction : ℕ → Direction
direction k = cond (k == 0) North (cond (k == 1) East (cond (k == 2) South West))

-- One step that way, if it stays on the grid.
abbrev pub neighbour : GridShape → Position → Direction → Option Position
neighbour s at North = cond (nat_lt 0 at.row) (Some (record { row = at.row - 1; column = at.column })) None
neighbour s at East = cond (nat_lt (at.column + 1) s.width) (Some (record { row = at.row; column = at.column + 1 })) None
neighbour s at South = cond (nat_lt (at.row + 1) s.height) (Some (record { row = at.row + 1; column = at.column })) None
neighbour s at West = cond (nat_lt 0 at.column) (Some (record { row = at.row; column = at.column - 1 })) None

-- A leg into a cell costs the cell's byte; into a cell of byte 0 it is barred.
abbrev pub entering : (target byte : ℕ) → Option Leg
entering target byte = cond (byte == 0) None (Some (record { target = target; cost = byte }))

-- A leg to a neighbour; off the grid it is barred.
abbrev pub leg_into : List ℕ → GridShape → Option Position → Option Leg
leg_into cells s None = None
leg_into cells s (Some at) = entering (place_at s at) (slice_index cells (place_at s at))

-- Every place of the grid has four legs.
abbrev pub leg_count : GridShape → ℕ → ℕ
leg_count s p = cond (nat_lt p (area s)) 4 0

abbrev pub leg_of : List ℕ → GridShape → ℕ → ℕ → Option Leg
leg_of cells s p k = cond (nat_lt k (leg_count s p)) (leg_into cells s (neighbour s (position s p) (direction k))) None

-- The lesser of two bytes, where 0 is no byte.
abbrev pub lesser_nonzero : ℕ → ℕ → ℕ
lesser_nonzero a b = cond (b == 0) a (cond (a == 0) b (min a b))

-- The least nonzero byte, 0 if there is none.
abbrev pub least_nonzero : List ℕ → ℕ
least_nonzero cells = fold lesser_nonzero 0 cells

-- The greatest byte.
abbrev pub greatest : List ℕ → ℕ
greatest cells = fold max 0 cells

abbrev pub apart : ℕ → ℕ → ℕ
apart a b = (a - b) + (b - a)

-- The sum of the row and column distances.
abbrev pub distance : Position → Position → ℕ
distance a b = apart a.row b.row + apart a.column b.column

abbrev pub to_goal : GridShape → ℕ → ℕ
to_goal s p = distance (position s p) (position s s.goal)

-- The low estimate: every leg costs at least the least nonzero byte.
abbrev pub low_of : List ℕ → GridShape → ℕ → ℕ
low_of cells s p = cond (nat_lt p (area s)) (least_nonzero cells * to_goal s p) 0

-- The guesses: each leg at the mean of the least nonzero and the greatest byte, its fraction dropped; and as many legs.
abbrev pub hope_of : List ℕ → GridShape → ℕ → ℕ
hope_of cells s p = cond (nat_lt p (area s)) ((least_nonzero cells + greatest cells) / 2 * to_goal s p) 0

abbrev pub steps_of : GridShape → ℕ → ℕ
steps_of s p = cond (nat_lt p (area s)) (to_goal s p) 0

-- The floor of a grid, and its guesses.
abbrev pub grid_floor : List ℕ → GridShape → Meaning
grid_floor cells s = record { size = area s; count = leg_count s; leg = leg_of cells s; goal = λ p. (p == s.goal); low = low_of cells s }

abbrev pub grid_guesses : List ℕ → GridShape → Guesses
grid_guesses cells s = record { hope = hope_of cells s; steps = steps_of s }
