-- The test of a table decides whether it is in order.
use Rattle.std.proofs.Common.{◌≡◌, ℕ, true, List, length, sym, subst, ⊎_elim}
use Rattle.std.proofs.lemmas.Bool.{and_parts, and_from, cases_lt}
use Rattle.queue.specs.declared.entry.CostEntry.{CostEntry}
use Rattle.queue.specs.Keys.{cost_at_most, near_at_most}
use Rattle.roster.proofs.Checking.{every_each, each_every, roster_holds, holds_roster}
use Rattle.roster.proofs.Wishes.{expected_past}
use Rattle.roster.specs.Check.{expected_in, roster_right}
use Rattle.roster.specs.Holds.{Holds}
use Rattle.search_model.specs.declared.records.Record.{Record}
use Rattle.search_model.specs.declared.search.Search.{Search}
use Rattle.search_model.specs.Fields.{RecordLimits}
use Rattle.search_model.specs.Records.{at, f, f_hat}
use Rattle.table.specs.declared.node.Node.{Node}
use Rattle.table.specs.Asked.{right_at, records_right, low_right, hope_right, near_right, queues_right, open_count, near_count}
use Rattle.table.specs.Law.{OrderLaw}
use Rattle.table.specs.Order.{cost_place, near_place_of, in_order, InOrder}
use Rattle.table.specs.Seats.{low_entry, low_note, hope_entry, hope_note, near_entry, near_note}
use Rattle.table.specs.Table.{records, open_entry, near_wanted, least_hope}
use Rattle.table.proofs.OrderAsked.{counts_same, records_past}
use Rattle.roster.proofs.Orders.{cost_ordered, near_ordered}
use Rattle.table.proofs.OrderLimits.{right_limits, limits_right, blank_limits}

pub right_all : (t : List Node) → records_right t ≡ true → (p : ℕ) → RecordLimits (at (records t) p)
right_all t right p = ⊎_elim
    (λ l. right_limits (at (records t) p) (every_each (right_at t) (length t) right p l))
    (λ past. subst RecordLimits (sym (records_past t p past)) blank_limits)
    (cases_lt p (length t))

-- a queue of costs that passes holds the open places by its key
pub open_holds : (key : Record → ℕ) (get : Node → CostEntry) (note : Node → ℕ) (t : List Node) → roster_right cost_at_most cost_place get note (expected_in (open_entry key) t) t ≡ true
    → Holds cost_at_most cost_place get note (expected_in (open_entry key) t) (open_count t) t
open_holds key get note t right = subst
    (λ (n : ℕ). Holds cost_at_most cost_place get note (expected_in (open_entry key) t) n t)
    (counts_same key f t (length t))
    (roster_holds cost_at_most cost_place get note cost_ordered (expected_in (open_entry key) t) t (expected_past (open_entry key) t) right)

near_holds : (s : Search) (least : ℕ) (t : List Node) → near_right s least t ≡ true → Holds near_at_most near_place_of near_entry near_note (expected_in (near_wanted s least) t) (near_count s least t) t
near_holds s least t right =
    roster_holds near_at_most near_place_of near_entry near_note near_ordered (expected_in (near_wanted s least) t) t (expected_past (near_wanted s least) t) right

module _ (s : Search) (t : List Node) where
  pub order_holds : in_order s t ≡ true → InOrder s (open_count t) (near_count s (least_hope (records t)) t) t
  order_holds e =
      let a = and_parts (records_right t) (queues_right s t) e in
      let b = and_parts (low_right t) _ a.1 in
      let c = and_parts (hope_right t) (near_right s (least_hope (records t)) t) b.1 in
      record { limits = right_all t a.0; low = open_holds f low_entry low_note t b.0; hope = open_holds f_hat hope_entry hope_note t c.0; near = near_holds s (least_hope (records t)) t c.1 }

  pub order_tested : (opened nears : ℕ) → InOrder s opened nears t → in_order s t ≡ true
  order_tested opened nears o =
      and_from _ _ (each_every (right_at t) (length t) (λ p l. limits_right (at (records t) p) (o.limits p)))
      (and_from _ _ (holds_roster cost_at_most cost_place low_entry low_note cost_ordered _ opened t o.low)
      (and_from _ _ (holds_roster cost_at_most cost_place hope_entry hope_note cost_ordered _ opened t o.hope)
      (holds_roster near_at_most near_place_of near_entry near_note near_ordered _ nears t o.near)))

pub order_law : OrderLaw
order_law = record { holds = order_holds; tested = λ s opened nears t o. order_tested s t opened nears o }
