-- The table of a search that begins.
use Rattle.std.specs.Prelude.{ℕ, List, replicate, slice_index_or, slice_set}
use Rattle.search_model.specs.declared.records.Record.{Record}
use Rattle.search_model.specs.Records.{blank, f, f_hat}
use Rattle.table.specs.declared.node.Node.{Node}

-- A node that holds nothing.
abbrev pub blank_node : Node
blank_node = record {
  kept = blank;
  low = record { entry = record { cost = 0; place = 0 }; note = 0 };
  hope = record { entry = record { cost = 0; place = 0 }; note = 0 };
  near = record { entry = record { steps = 0; cost = 0; place = 0 }; note = 0 };
  far = record { entry = record { cost = 0; place = 0 }; note = 0 };
  side = 0;
}

-- The same node with the one entry of each queue, which is that of the start.
abbrev pub seated : Node → ℕ → Record → Node
seated n start r = record {
  kept = n.kept;
  low = record { entry = record { cost = f r; place = start }; note = n.low.note };
  hope = record { entry = record { cost = f_hat r; place = start }; note = n.hope.note };
  near = record { entry = record { steps = r.steps; cost = f_hat r; place = start }; note = n.near.note };
  far = n.far;
  side = n.side;
}

-- The same node with another record.
abbrev pub with_kept : Node → Record → Node
with_kept n r = record { kept = r; low = n.low; hope = n.hope; near = n.near; far = n.far; side = n.side }

-- The start's entries in slot 0 of a table of n blank nodes.
abbrev pub seated_table : ℕ → ℕ → Record → List Node
seated_table n start r = slice_set (replicate n blank_node) 0 (seated blank_node start r)

-- The same table with another record of a place.
abbrev pub set_kept : List Node → ℕ → Record → List Node
set_kept t p r = slice_set t p (with_kept (slice_index_or t p blank_node) r)

-- The table with the start open alone.
abbrev pub fresh_table : ℕ → ℕ → Record → List Node
fresh_table n start r = set_kept (seated_table n start r) start r
