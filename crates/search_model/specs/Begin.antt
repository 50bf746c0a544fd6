-- Where a search begins, and a new bound for one.
use Rattle.std.specs.Prelude.{ℕ, List, replicate, slice_set}
use Rattle.floors.specs.Guided.{Guided}
use Rattle.search_model.specs.declared.bound.Bound.{Bound}
use Rattle.search_model.specs.declared.records.Record.{Record}
use Rattle.search_model.specs.declared.search.Search.{Search}
use Rattle.search_model.specs.Records.{blank}
use Rattle.search_model.specs.Expansion.{labelled}

-- All records blank, then the start opened with label 0, its own parent.
abbrev pub first_records : Guided → ℕ → List Record
first_records g start = slice_set (replicate g.floor.size blank) start (labelled g start 0 start 0)

-- A search that has expanded nothing.
abbrev pub first_search : Guided → ℕ → Bound → Search
first_search g start bound = record { start = start; bound = bound; size = g.floor.size; total = 0 }

-- The same search under another bound.
abbrev pub rebounded : Bound → Search → Search
rebounded bound s = record { start = s.start; bound = bound; size = s.size; total = s.total }
