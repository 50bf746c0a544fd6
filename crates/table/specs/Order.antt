-- A table in order.
use Rattle.std.specs.Prelude.{ℕ, Bool, ◌&&◌, ◌||◌, List, length, nat_le}
use Rattle.queue.specs.Keys.{cost_at_most, near_at_most}
use Rattle.queue.specs.declared.entry.CostEntry.{CostEntry}
use Rattle.queue.specs.declared.entry.NearEntry.{NearEntry}
use Rattle.roster.specs.Check.{every, expected_in, roster_right}
use Rattle.roster.specs.Holds.{Holds}
use Rattle.floors.specs.Sound.{limit}
use Rattle.search_model.specs.declared.records.Record.{Record}
use Rattle.search_model.specs.declared.search.Search.{Search}
use Rattle.search_model.specs.Fields.{RecordLimits}
use Rattle.search_model.specs.Records.{at, is_unseen}
use Rattle.table.specs.declared.node.Node.{Node}
use Rattle.table.specs.Seats.{low_entry, low_note, hope_entry, hope_note, near_entry, near_note}
use Rattle.table.specs.Table.{records, low_wanted, hope_wanted, near_wanted, least_hope}

-- The places that entries name.
abbrev pub cost_place : CostEntry → ℕ
cost_place e = e.place

abbrev pub near_place_of : NearEntry → ℕ
near_place_of e = e.place

-- A record within its limits: the mark is 0 to 2; of a seen place the label and the estimates are within the limit, and
-- the kept hope is at least the low estimate.
abbrev pub record_right : Record → Bool
record_right r =
    nat_le r.mark 2
    && (is_unseen r || (nat_le r.label limit && (nat_le r.low r.hope && (nat_le r.hope limit && nat_le r.steps limit))))

-- A table in order, as a test: records within their limits; the low and the hope queue hold every open place, the near queue the
-- near set, each once, arranged by the queue's own rule.
abbrev pub in_order : Search → List Node → Bool
in_order s t =
    every (λ p. record_right (at (records t) p)) (length t)
    && (roster_right cost_at_most cost_place low_entry low_note (expected_in low_wanted t) t
    && (roster_right cost_at_most cost_place hope_entry hope_note (expected_in hope_wanted t) t
    && roster_right near_at_most near_place_of near_entry near_note (expected_in (near_wanted s (least_hope (records t))) t) t))

-- The same by what it is, with the numbers of open and of near places.
pub record InOrder (s : Search) (opened nears : ℕ) (t : List Node) : Type 0 where
  pub limits : (p : ℕ) → RecordLimits (at (records t) p)
  pub low : Holds cost_at_most cost_place low_entry low_note (expected_in low_wanted t) opened t
  pub hope : Holds cost_at_most cost_place hope_entry hope_note (expected_in hope_wanted t) opened t
  pub near : Holds near_at_most near_place_of near_entry near_note (expected_in (near_wanted s (least_hope (records t))) t) nears t
