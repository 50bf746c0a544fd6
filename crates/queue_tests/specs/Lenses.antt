-- The parts of the records under test, and the order of events.
use Rattle.std.specs.Prelude.{ℕ, Bool, ◌&&◌, ◌||◌, ◌==◌, nat_le, nat_lt}
use Rattle.queue.specs.declared.entry.CostEntry.{CostEntry}
use Rattle.queue.specs.declared.entry.NearEntry.{NearEntry}
use Rattle.queue_tests.specs.declared.Event.{Event}
use Rattle.queue_tests.specs.declared.Node.{Node}

-- By time, then by number.
abbrev pub event_at_most : Event → Event → Bool
event_at_most x y = nat_lt x.time y.time || (x.time == y.time && nat_le x.number y.number)

-- The home of an entry of the low queue is its place.
abbrev pub place_of : CostEntry → ℕ
place_of e = e.place

-- The slot of the low queue in a node.
abbrev pub low_of : Node → CostEntry
low_of n = n.low

abbrev pub with_low : Node → CostEntry → Node
with_low n e = record { tag = n.tag; low = e; low_slot = n.low_slot; near = n.near }

-- The note of a node: the slot of the low queue in which the entry of its place stands.
abbrev pub low_slot_of : Node → ℕ
low_slot_of n = n.low_slot

abbrev pub with_low_slot : Node → ℕ → Node
with_low_slot n s = record { tag = n.tag; low = n.low; low_slot = s; near = n.near }

-- The slot of the near queue in a node.
abbrev pub near_of : Node → NearEntry
near_of n = n.near

abbrev pub with_near : Node → NearEntry → Node
with_near n e = record { tag = n.tag; low = n.low; low_slot = n.low_slot; near = e }
