-- One step from a place back towards the start.
use Rattle.std.specs.Prelude.{ℕ, true, false, List, Some, None, Option, ◌==◌}
use Rattle.floors.specs.declared.leg.Leg.{Leg}
use Rattle.floors.specs.Meaning.{Meaning}
use Rattle.search_model.specs.declared.records.Record.{Record}
use Rattle.search_model.specs.Records.{at}
use Rattle.reading.specs.declared.back.Back.{Back}
use Rattle.reading.specs.declared.back.Back.TheVariants.{Arrived, Parent, Lost}

-- The parent, if its leg is usable and leads to the place.
abbrev pub leg_back : ℕ → ℕ → Option Leg → Back
leg_back parent place None = Lost
leg_back parent place (Some l) = elim (l.target == place) [ true ↦ Parent (record { parent = parent; cost = l.cost }) | false ↦ Lost ]

-- One step back from a place, by its record.
abbrev pub step_back : Meaning → ℕ → List Record → ℕ → Back
step_back m start records place =
    elim (place == start) [
      | true ↦ Arrived
      | false ↦ leg_back (at records place).parent place (m.leg (at records place).parent (at records place).leg)
    ]
