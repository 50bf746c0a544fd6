-- The route to a place, read from the records.
use Rattle.std.specs.Prelude.{ℕ, zero, suc, ◌+◌, true, false, List, [], ◌∷◌, ◌++◌, Some, None, Option, ◌==◌}
use Rattle.floors.specs.Meaning.{Meaning}
use Rattle.search_model.specs.declared.records.Record.{Record}
use Rattle.search_model.specs.declared.search.Search.{Search}
use Rattle.search_model.specs.Records.{at}

-- A route's places, the start first, and the sum of the costs of its legs.
pub record Trail : Type 0 where
  pub places : List ℕ
  pub cost : ℕ

-- A trail with one more place at its end.
abbrev pub extended : ℕ → ℕ → Option Trail → Option Trail
extended cost place None = None
extended cost place (Some w) = Some (record { places = w.places ++ (place ∷ []); cost = w.cost + cost })

-- Parents from a place to the start within n places, each by a usable leg to its child.
abbrev pub follow : Meaning → ℕ → List Record → ℕ → ℕ → Option Trail
follow m start records zero place = None
follow m start records (suc n) place =
    elim (place == start) [
      | true ↦ Some (record { places = place ∷ []; cost = 0 })
      | false ↦
          elim (m.leg (at records place).parent (at records place).leg) [
            | None ↦ None
            | Some l ↦
                elim (l.target == place) [
                  | true ↦ extended l.cost place (follow m start records n (at records place).parent)
                  | false ↦ None
                ]
          ]
    ]

-- The route of a search to a goal: parents from the goal to the start within as many places as there are.
abbrev pub read_route : Meaning → Search → List Record → ℕ → Option Trail
read_route m s records goal = follow m s.start records s.size goal
