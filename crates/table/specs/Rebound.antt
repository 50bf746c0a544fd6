-- The near queue, filled anew place by place.
use Rattle.std.specs.Prelude.{◌≡◌, ℕ, cond, List, map, None, Option, nat_lt}
use Rattle.queue.specs.Keys.{near_at_most}
use Rattle.roster.specs.Check.{expected_in}
use Rattle.roster.specs.Holds.{Holds}
use Rattle.search_model.specs.declared.search.Search.{Search}
use Rattle.table.specs.declared.node.Node.{Node}
use Rattle.table.specs.Order.{near_place_of}
use Rattle.table.specs.Seats.{low_entry, low_note, hope_entry, hope_note, near_entry, near_note}
use Rattle.table.specs.Table.{records, near_wanted}

-- The expectations of the homes below i.
abbrev pub below : {E : Type 0} → ℕ → (ℕ → Option E) → ℕ → Option E
below i expected h = cond (nat_lt h i) (expected h) None

-- The near queue of n in t holds the near places below i of the table `first`.
abbrev pub NearBelow : Search → ℕ → List Node → ℕ → ℕ → List Node → Type 0
NearBelow s least first i n t = Holds near_at_most near_place_of near_entry near_note (below i (expected_in (near_wanted s least) first)) n t

-- The two tables have the same records, and the same low and hope queues.
pub record NearOnly (before after : List Node) : Type 0 where
  pub kept : records after ≡ records before
  pub low_entries : map low_entry after ≡ map low_entry before
  pub low_notes : map low_note after ≡ map low_note before
  pub hope_entries : map hope_entry after ≡ map hope_entry before
  pub hope_notes : map hope_note after ≡ map hope_note before
