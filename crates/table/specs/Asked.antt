-- What the check of a table asks of each node.
use Rattle.std.specs.Prelude.{ℕ, Bool, cond, ◌&&◌, List, length, Some, None, Option, nat_lt}
use Rattle.queue.specs.declared.entry.CostEntry.{CostEntry}
use Rattle.queue.specs.Keys.{cost_at_most, near_at_most}
use Rattle.roster.specs.Check.{every, expected_in, roster_right}
use Rattle.roster.specs.Holds.{Holds, expected_count}
use Rattle.search_model.specs.declared.records.Record.{Record}
use Rattle.search_model.specs.declared.search.Search.{Search}
use Rattle.search_model.specs.Records.{at, f, f_hat}
use Rattle.table.specs.declared.node.Node.{Node}
use Rattle.table.specs.declared.node.Seat.{Seat}
use Rattle.table.specs.declared.order.Queued.{Queued}
use Rattle.table.specs.Seats.{near_entry, near_note}
use Rattle.table.specs.Table.{records, open_entry, low_wanted, near_wanted, least_hope}
use Rattle.table.specs.Order.{cost_place, near_place_of, record_right, InOrder}

-- The record is within its limits, and an entry can hold the place.
abbrev pub askable : Node → ℕ → Bool
askable n p = record_right n.kept && nat_lt p 4294967296

-- The same expectation of a node that is askable, and none of another.
abbrev pub asked : {E : Type 0} → (Node → ℕ → Option E) → Node → ℕ → Option E
asked wanted n p = cond (askable n p) (wanted n p) None

-- The parts of `in_order`: every record within its limits, and each queue.
abbrev pub right_at : List Node → ℕ → Bool
right_at t p = record_right (at (records t) p)

abbrev pub records_right : List Node → Bool
records_right t = every (right_at t) (length t)

abbrev pub open_right : (Record → ℕ) → (Node → Seat CostEntry) → List Node → Bool
open_right key seat_of t = roster_right cost_at_most cost_place (λ n. (seat_of n).entry) (λ n. (seat_of n).note) (expected_in (open_entry key) t) t

abbrev pub low_right : List Node → Bool
low_right = open_right f (λ n. n.low)

abbrev pub hope_right : List Node → Bool
hope_right = open_right f_hat (λ n. n.hope)

abbrev pub near_right : Search → ℕ → List Node → Bool
near_right s least t = roster_right near_at_most near_place_of near_entry near_note (expected_in (near_wanted s least) t) t

abbrev pub queues_right : Search → List Node → Bool
queues_right s t = low_right t && (hope_right t && near_right s (least_hope (records t)) t)

-- How many places are open, and how many are near.
abbrev pub open_count : List Node → ℕ
open_count t = expected_count (expected_in low_wanted t) (length t)

abbrev pub near_count : Search → ℕ → List Node → ℕ
near_count s least t = expected_count (expected_in (near_wanted s least) t) (length t)

abbrev pub queued : ℕ → ℕ → Queued
queued o n = record { opened = o; nears = n }

abbrev pub counted : Search → List Node → Queued
counted s t = queued (open_count t) (near_count s (least_hope (records t)) t)

-- A value if the test passes.
abbrev pub when : {A : Type 0} → Bool → A → Option A
when b x = cond b (Some x) None

-- What the answer of the check of a queue of costs says: it holds the open places by the key.
abbrev pub OpenHeld : (Record → ℕ) → (Node → Seat CostEntry) → List Node → Option ℕ → Type 0
OpenHeld key seat_of t (Some n) = Holds cost_at_most cost_place (λ k. (seat_of k).entry) (λ k. (seat_of k).note) (expected_in (open_entry key) t) n t
OpenHeld key seat_of t None = Unit {0}

-- What the answer of the check says: the table is in order with these numbers, or with none.
abbrev pub DecidedOrder : Search → List Node → Option Queued → Type 0
DecidedOrder s t (Some q) = InOrder s q.opened q.nears t
DecidedOrder s t None = (o n : ℕ) → InOrder s o n t → ⊥
