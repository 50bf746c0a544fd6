-- The floor that a layout describes: place records first, which number the places, then leg records.
use Rattle.std.specs.Prelude.{ℕ, ◌+◌, ◌-◌, Bool, false, cond, not, List, Some, None, Option, ◌==◌, nat_lt}
use Rattle.std.specs.Option.{unwrap_or}
use Rattle.floors.specs.declared.leg.Leg.{Leg}
use Rattle.floors.specs.Guided.{Guesses}
use Rattle.floors.specs.Meaning.{Meaning}
use Rattle.layout.specs.declared.counts.Counts.{Counts}
use Rattle.layout.specs.declared.record.RawRecord.{RawRecord}
use Rattle.layout.specs.Lowest.{lowest}
use Rattle.layout.specs.Records.{whole, zeros, record_at}

-- Byte 0 of a place record, and of a leg record.
abbrev pub place_tag : ℕ
place_tag = 83

abbrev pub leg_tag : ℕ
leg_tag = 65

abbrev pub no_place : List ℕ → ℕ → Bool
no_place bs r = not ((record_at bs r).tag == place_tag)

-- How many place records stand first.
abbrev pub places : List ℕ → ℕ
places bs = unwrap_or (lowest (no_place bs) (whole bs)) (whole bs)

-- Of so many records the first are places, each a place of the floor, and the others are legs.
abbrev pub divided : ℕ → ℕ → Counts
divided records first = record { size = first; places = first; legs = records - first }

-- How a layout divides.
abbrev pub counts : List ℕ → Counts
counts bs = divided (whole bs) (places bs)

-- The number of the first leg of place p; behind the last place, the number of legs.
abbrev pub first_leg : List ℕ → Counts → ℕ → ℕ
first_leg bs n p = cond (nat_lt p n.places) (record_at bs p).half n.legs

-- A place's legs run from its first leg up to the next place's first leg, those of the last place to the end.
abbrev pub leg_count : List ℕ → Counts → ℕ → ℕ
leg_count bs n p = cond (nat_lt p n.size) (first_leg bs n (p + 1) - first_leg bs n p) 0

-- The record of leg k of place p.
abbrev pub leg_record : List ℕ → Counts → ℕ → ℕ → ℕ
leg_record bs n p k = n.places + (first_leg bs n p + k)

-- Leg k of place p; past the list it is barred.
abbrev pub leg_of : List ℕ → Counts → ℕ → ℕ → Option Leg
leg_of bs n p k = cond (nat_lt k (leg_count bs n p))
    (Some (record { target = (record_at bs (leg_record bs n p k)).word1; cost = (record_at bs (leg_record bs n p k)).half })) None

-- The record of place p; off the floor, zeros.
abbrev pub place_record : List ℕ → Counts → ℕ → RawRecord
place_record bs n p = cond (nat_lt p n.size) (record_at bs p) zeros

-- Byte 1 of a place record is 1 for a goal.
abbrev pub goal_of : List ℕ → Counts → ℕ → Bool
goal_of bs n p = cond (nat_lt p n.size) ((record_at bs p).flag == 1) false

-- The low, hope and step estimates in the place records.
abbrev pub low_of : List ℕ → Counts → ℕ → ℕ
low_of bs n p = cond (nat_lt p n.size) (record_at bs p).word1 0

abbrev pub hope_of : List ℕ → Counts → ℕ → ℕ
hope_of bs n p = cond (nat_lt p n.size) (record_at bs p).word2 0

abbrev pub steps_of : List ℕ → Counts → ℕ → ℕ
steps_of bs n p = cond (nat_lt p n.size) (record_at bs p).word3 0

-- The places, legs and goals that bytes so divided describe, under any low estimates.
abbrev pub floor_under : (ℕ → ℕ) → List ℕ → Counts → Meaning
floor_under low bs n = record { size = n.size; count = leg_count bs n; leg = leg_of bs n; goal = goal_of bs n; low = low }

-- The floor that they describe, and its guesses.
abbrev pub floor_of : List ℕ → Counts → Meaning
floor_of bs n = floor_under (low_of bs n) bs n

abbrev pub guesses_of : List ℕ → Counts → Guesses
guesses_of bs n = record { hope = hope_of bs n; steps = steps_of bs n }
