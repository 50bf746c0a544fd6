-- What the expansion of a place does to the records.
use Rattle.std.specs.Prelude.{ℕ, zero, suc, ◌+◌, min, max, Bool, true, false, ◌&&◌, ◌||◌, List, Some, None, nat_le, nat_lt, slice_set}
use Rattle.floors.specs.Guided.{Guided}
use Rattle.floors.specs.Sound.{limit}
use Rattle.search_model.specs.declared.records.Record.{Record}
use Rattle.search_model.specs.declared.search.Search.{Search}
use Rattle.search_model.specs.Records.{at, is_unseen}

-- The record of an open place with a label given by way of a parent and one of its legs, with the floor's estimates.
-- The kept hope is never below the low estimate.
abbrev pub labelled : Guided → ℕ → ℕ → ℕ → ℕ → Record
labelled g place label parent leg =
    record {
      mark = 1;
      label = label;
      parent = parent;
      leg = leg;
      low = g.floor.low place;
      hope = max (g.floor.low place) (g.hope place);
      steps = g.steps place;
    }

-- Whether a place takes the label: it is within the limit, and the place is unseen or has a greater one.
abbrev pub takes : ℕ → Record → Bool
takes label r = nat_le label limit && (is_unseen r || nat_lt label r.label)

-- A label is offered to a place by way of a parent and one of its legs.
abbrev pub offer : Guided → ℕ → ℕ → ℕ → ℕ → List Record → List Record
offer g place label parent leg records =
    elim (takes label (at records place)) [ true ↦ slice_set records place (labelled g place label parent leg) | false ↦ records ]

-- One leg of a place: barred, or its target is offered the label of the place and the leg's cost.
abbrev pub along : Guided → ℕ → ℕ → List Record → List Record
along g n k records =
    elim (g.floor.leg n k) [ None ↦ records | Some l ↦ offer g l.target ((at records n).label + l.cost) n k records ]

-- The legs of a place below k, in order.
abbrev pub spread : Guided → ℕ → ℕ → List Record → List Record
spread g n zero records = records
spread g n (suc k) records = along g n k (spread g n k records)

-- A record that is closed and otherwise the same.
abbrev pub closed : Record → Record
closed r = record { mark = 2; label = r.label; parent = r.parent; leg = r.leg; low = r.low; hope = r.hope; steps = r.steps }

-- The place is closed, and then all its legs are taken.
abbrev pub expanded : Guided → ℕ → List Record → List Record
expanded g n records = spread g n (g.floor.count n) (slice_set records n (closed (at records n)))

-- Where a total of expansions stops.
abbrev pub greatest_total : ℕ
greatest_total = 1099511627775

-- The search with one more expansion in its total.
abbrev pub counted : Search → Search
counted s = record { start = s.start; bound = s.bound; size = s.size; total = min (s.total + 1) greatest_total }
