-- The parts of a node that belong to each queue.
use Rattle.std.specs.Prelude.{ℕ}
use Rattle.queue.specs.declared.entry.CostEntry.{CostEntry}
use Rattle.queue.specs.declared.entry.NearEntry.{NearEntry}
use Rattle.table.specs.declared.node.Node.{Node}

abbrev pub low_entry : Node → CostEntry
low_entry n = n.low.entry

abbrev pub with_low_entry : Node → CostEntry → Node
with_low_entry n e = record { kept = n.kept; low = record { entry = e; note = n.low.note }; hope = n.hope; near = n.near; far = n.far; side = n.side }

abbrev pub low_note : Node → ℕ
low_note n = n.low.note

abbrev pub with_low_note : Node → ℕ → Node
with_low_note n slot = record { kept = n.kept; low = record { entry = n.low.entry; note = slot }; hope = n.hope; near = n.near; far = n.far; side = n.side }

abbrev pub hope_entry : Node → CostEntry
hope_entry n = n.hope.entry

abbrev pub with_hope_entry : Node → CostEntry → Node
with_hope_entry n e = record { kept = n.kept; low = n.low; hope = record { entry = e; note = n.hope.note }; near = n.near; far = n.far; side = n.side }

abbrev pub hope_note : Node → ℕ
hope_note n = n.hope.note

abbrev pub with_hope_note : Node → ℕ → Node
with_hope_note n slot = record { kept = n.kept; low = n.low; hope = record { entry = n.hope.entry; note = slot }; near = n.near; far = n.far; side = n.side }

abbrev pub near_entry : Node → NearEntry
near_entry n = n.near.entry

abbrev pub with_near_entry : Node → NearEntry → Node
with_near_entry n e = record { kept = n.kept; low = n.low; hope = n.hope; near = record { entry = e; note = n.near.note }; far = n.far; side = n.side }

abbrev pub near_note : Node → ℕ
near_note n = n.near.note

abbrev pub with_near_note : Node → ℕ → Node
with_near_note n slot = record { kept = n.kept; low = n.low; hope = n.hope; near = record { entry = n.near.entry; note = slot }; far = n.far; side = n.side }

abbrev pub far_entry : Node → CostEntry
far_entry n = n.far.entry

abbrev pub with_far_entry : Node → CostEntry → Node
with_far_entry n e = record { kept = n.kept; low = n.low; hope = n.hope; near = n.near; far = record { entry = e; note = n.far.note }; side = n.side }

abbrev pub far_note : Node → ℕ
far_note n = n.far.note

abbrev pub with_far_note : Node → ℕ → Node
with_far_note n slot = record { kept = n.kept; low = n.low; hope = n.hope; near = n.near; far = record { entry = n.far.entry; note = slot }; side = n.side }
