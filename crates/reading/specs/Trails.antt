-- What is told and written of a trail.
use Rattle.std.specs.Prelude.{ℕ, List, ◌++◌, length, drop, Some, None, Option}
use Rattle.search_model.specs.Read.{Trail}

-- What a read tells of a trail: how many places, and the sum of the leg costs.
abbrev pub pair_of : Option Trail → ℕ × ℕ
pair_of None = (0, 0)
pair_of (Some w) = (length w.places, w.cost)

-- The same pair, if there is a trail.
abbrev pub measured : Option Trail → Option (ℕ × ℕ)
measured None = None
measured (Some w) = Some (pair_of (Some w))

-- The list with the places of a trail written over its front.
abbrev pub written : Option Trail → List ℕ → List ℕ
written None list = list
written (Some w) list = w.places ++ drop (length w.places) list
