-- What the start of an advance requires and promises.
use Rattle.std.specs.Prelude.{◌≡◌, ℕ, ◌<◌, ◌≤◌, List, length, get_or, slice_index_or}
use Rattle.queue.specs.Keys.{cost_at_most, near_at_most}
use Rattle.roster.specs.Check.{expected_in}
use Rattle.roster.specs.Holds.{Holds}
use Rattle.search_model.specs.declared.search.Search.{Search}
use Rattle.search_model.specs.Choice.{is_near}
use Rattle.search_model.specs.Fields.{RecordLimits}
use Rattle.search_model.specs.Records.{at}
use Rattle.frontier.specs.declared.frontier.Frontier.{Frontier}
use Rattle.table.specs.declared.node.Node.{Node}
use Rattle.table.specs.Order.{cost_place, near_place_of, InOrder}
use Rattle.table.specs.Rebound.{below}
use Rattle.table.specs.Seats.{low_entry, low_note, hope_entry, hope_note, near_entry, near_note, far_entry, far_note}
use Rattle.frontier.specs.Frontier.{far_side_wanted, near_side}
use Rattle.table.specs.Table.{records, low_wanted, hope_wanted, near_wanted}

-- The far queue of n in u holds the places on the far side below i.
abbrev pub FarBelow : ℕ → ℕ → List Node → Type 0
FarBelow i n u = Holds cost_at_most cost_place far_entry far_note (below i (expected_in far_side_wanted u)) n u

-- The place can be seated.
pub record Seatable (u : List Node) (place fars : ℕ) : Type 0 where
  pub far : FarBelow place fars u
  pub on : place < length u
  pub small : length u ≤ 4096
  pub limits : RecordLimits (at (records u) place)

-- The places below i are seated: the table has the records of t, its queues but the far one hold what they held in t, and the cover is the least f̂.
pub record Seating (s : Search) (least : ℕ) (t : List Node) (fr : Frontier) (i : ℕ) (u : List Node) : Type 0 where
  pub same_records : records u ≡ records t
  pub same_length : length u ≡ length t
  pub low : Holds cost_at_most cost_place low_entry low_note (expected_in low_wanted t) fr.opened u
  pub hope : Holds cost_at_most cost_place hope_entry hope_note (expected_in hope_wanted t) fr.opened u
  pub near : Holds near_at_most near_place_of near_entry near_note (expected_in (near_wanted s least) t) fr.nears u
  pub far : FarBelow i fr.fars u
  pub seated : (d : Node) (p : ℕ) → p < i → near_side (slice_index_or u p d) ≡ is_near s least (get_or u p d).kept
  pub covers : fr.cover ≡ least

-- A table in order, and small.
pub record Startable (s : Search) (opened nears : ℕ) (t : List Node) : Type 0 where
  pub ordered : InOrder s opened nears t
  pub small : length t ≤ 4096
