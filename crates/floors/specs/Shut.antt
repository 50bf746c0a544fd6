-- The shut floor: a floor with a set of places that no leg enters.
use Rattle.std.specs.Prelude.{ℕ, Bool, true, false, cond, List, replicate, Some, None, count_by, Option, slice_index_or, slice_set}
use Rattle.floors.specs.declared.leg.Leg.{Leg}
use Rattle.floors.specs.Meaning.{Meaning, with_legs}

-- A set of places is a list of flags, one for each place that a floor can have.
abbrev pub no_places : List Bool
no_places = replicate 4096 false

abbrev pub contains : List Bool → ℕ → Bool
contains flags p = slice_index_or flags p false

abbrev pub with_place : List Bool → ℕ → List Bool
with_place flags p = slice_set flags p true

abbrev pub without_place : List Bool → ℕ → List Bool
without_place flags p = slice_set flags p false

-- How many places are in the set.
abbrev pub members : List Bool → ℕ
members flags = count_by (λ flag. flag) flags

-- A leg into a shut place is barred.
abbrev pub unless_shut : List Bool → Option Leg → Option Leg
unless_shut flags None = None
unless_shut flags (Some l) = cond (contains flags l.target) None (Some l)

-- All else is the floor below.
abbrev pub shut_floor : List Bool → Meaning → Meaning
shut_floor flags m = with_legs m (λ p k. unless_shut flags (m.leg p k))
