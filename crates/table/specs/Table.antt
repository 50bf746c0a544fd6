-- What the queues of a table hold.
use Rattle.std.specs.Prelude.{ℕ, cond, List, map, Some, None, Option}
use Rattle.queue.specs.declared.entry.CostEntry.{CostEntry}
use Rattle.queue.specs.declared.entry.NearEntry.{NearEntry}
use Rattle.search_model.specs.declared.records.Record.{Record}
use Rattle.search_model.specs.declared.search.Search.{Search}
use Rattle.search_model.specs.Choice.{hope_place, is_near, rank}
use Rattle.search_model.specs.Records.{at, is_open, f, f_hat}
use Rattle.table.specs.declared.node.Node.{Node}

-- The records of a table: all of it that the definition of the search speaks of.
abbrev pub records : List Node → List Record
records t = map (λ (n : Node). n.kept) t

-- An open place's entry under a key of its record.
abbrev pub open_entry : (Record → ℕ) → Node → ℕ → Option CostEntry
open_entry key n p = cond (is_open n.kept) (Some (record { cost = key n.kept; place = p })) None

-- The low queue wants every open place by f, the hope queue by f̂.
abbrev pub low_wanted : Node → ℕ → Option CostEntry
low_wanted = open_entry f

abbrev pub hope_wanted : Node → ℕ → Option CostEntry
hope_wanted = open_entry f_hat

-- A place's entry in the near queue: by rank, then by f̂.
abbrev pub near_entry_of : Search → Node → ℕ → NearEntry
near_entry_of s n p = record { steps = rank s n.kept; cost = f_hat n.kept; place = p }

-- The least f̂ of an open place; 0 where nothing is open.
abbrev pub least_hope : List Record → ℕ
least_hope rs = elim (hope_place rs) [ None ↦ 0 | Some h ↦ f_hat (at rs h) ]

-- The near queue wants the near set for the least f̂.
abbrev pub near_wanted : Search → ℕ → Node → ℕ → Option NearEntry
near_wanted s least n p = cond (is_near s least n.kept) (Some (near_entry_of s n p)) None
