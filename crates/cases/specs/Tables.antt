-- The tables of a search on the six places, from place 0 at 3/2.
use Rattle.std.specs.Prelude.{ℕ, List, [], ◌∷◌, replicate}
use Rattle.queue.specs.declared.entry.CostEntry.{CostEntry}
use Rattle.queue.specs.declared.entry.NearEntry.{NearEntry}
use Rattle.search_model.specs.declared.records.Record.{Record}
use Rattle.search_model.specs.Expansion.{labelled, closed}
use Rattle.table.specs.declared.node.Node.{Node}
use Rattle.table.specs.declared.node.Seat.{Seat}
use Rattle.table.specs.Fresh.{blank_node, fresh_table}
use Rattle.cases.specs.Floors.{six}

-- Six blank nodes.
abbrev pub blank_table : List Node
blank_table = replicate 6 blank_node

-- The table that a begin leaves: the start alone is open.
abbrev pub begun_table : List Node
begun_table = fresh_table 6 0 (labelled six 0 0 0 0)

-- A slot with an entry of the low or the hope queue, and a place's note.
abbrev pub cost_seat : (cost place note : ℕ) → Seat CostEntry
cost_seat cost place note = record { entry = record { cost = cost; place = place }; note = note }

-- A slot with an entry of the near queue, and a place's note.
abbrev pub near_seat : (steps cost place note : ℕ) → Seat NearEntry
near_seat steps cost place note = record { entry = record { steps = steps; cost = cost; place = place }; note = note }

-- A node from its record and its seats in the low, the hope and the near queue.
abbrev pub node_of : Record → Seat CostEntry → Seat CostEntry → Seat NearEntry → Node
node_of r low hope near = record { kept = r; low = low; hope = hope; near = near; far = cost_seat 0 0 0; side = 0 }

-- A table after 0, 2 and 4 are expanded: 1, 3 and 5 are open, and stand in slots 0 to 2 of each queue.
abbrev pub settled_table : List Node
settled_table =
    node_of (closed (labelled six 0 0 0 0)) (cost_seat 6 1 0) (cost_seat 6 5 0) (near_seat 0 6 5 0)
    ∷ node_of (labelled six 1 2 0 0) (cost_seat 6 5 0) (cost_seat 7 1 1) (near_seat 1 9 3 2)
    ∷ node_of (closed (labelled six 2 1 0 1)) (cost_seat 8 3 0) (cost_seat 9 3 0) (near_seat 2 7 1 0)
    ∷ node_of (labelled six 3 6 2 0) (cost_seat 0 0 2) (cost_seat 0 0 2) (near_seat 0 0 0 1)
    ∷ node_of (closed (labelled six 4 5 2 1)) (cost_seat 0 0 0) (cost_seat 0 0 0) (near_seat 0 0 0 0)
    ∷ node_of (labelled six 5 6 4 0) (cost_seat 0 0 1) (cost_seat 0 0 0) (near_seat 0 0 0 0)
    ∷ []
