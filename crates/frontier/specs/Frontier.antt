-- The open places of a table while an advance runs, and what the calls on them require and promise.
use Rattle.std.specs.Prelude.{◌≡◌, ℕ, ◌+◌, ◌-◌, ◌<◌, ◌≤◌, Bool, true, false, cond, not, ◌&&◌, List, length, get_or, Some, None, Option, ◌==◌, ◌≢◌, slice_index_or, slice_set}
use Rattle.queue.specs.Keys.{cost_at_most, near_at_most}
use Rattle.queue.specs.declared.entry.CostEntry.{CostEntry}
use Rattle.queue.specs.declared.entry.NearEntry.{NearEntry}
use Rattle.roster.specs.Check.{expected_in}
use Rattle.roster.specs.Holds.{Holds}
use Rattle.search_model.specs.declared.records.Record.{Record}
use Rattle.search_model.specs.declared.search.Search.{Search}
use Rattle.search_model.specs.Choice.{within}
use Rattle.search_model.specs.Fields.{RecordLimits}
use Rattle.search_model.specs.Records.{at, is_open, f_hat}
use Rattle.table.specs.declared.node.Node.{Node}
use Rattle.table.specs.Order.{cost_place, near_place_of}
use Rattle.table.specs.Seats.{low_entry, low_note, hope_entry, hope_note, near_entry, near_note, far_entry, far_note}
use Rattle.table.specs.Table.{records, low_wanted, hope_wanted, near_entry_of}
use Rattle.frontier.specs.declared.frontier.Frontier.{Frontier}

-- While an advance runs an open place is on the near side or on the far side.
abbrev pub near_side : Node → Bool
near_side n = is_open n.kept && n.side == 1

abbrev pub far_side : Node → Bool
far_side n = is_open n.kept && not (n.side == 1)

abbrev pub near_side_wanted : Search → Node → ℕ → Option NearEntry
near_side_wanted s n p = cond (near_side n) (Some (near_entry_of s n p)) None

abbrev pub far_side_wanted : Node → ℕ → Option CostEntry
far_side_wanted n p = cond (far_side n) (Some (record { cost = f_hat n.kept; place = p })) None

-- Every place on the far side is beyond the cover: b × f̂ is above a × cover.
abbrev pub AllBeyond : Search → List Node → ℕ → Type 0
AllBeyond s t cover = (d : Node) (p : ℕ) → p < length t → far_side (slice_index_or t p d) ≡ true → within s cover (get_or t p d).kept ≡ false

-- A table while an advance runs: the near queue holds the open places on the near side, the far queue those on the far side,
-- which are beyond the cover.
pub record Ready (s : Search) (opened nears fars cover : ℕ) (t : List Node) : Type 0 where
  pub limits : (p : ℕ) → RecordLimits (at (records t) p)
  pub low : Holds cost_at_most cost_place low_entry low_note (expected_in low_wanted t) opened t
  pub hope : Holds cost_at_most cost_place hope_entry hope_note (expected_in hope_wanted t) opened t
  pub near : Holds near_at_most near_place_of near_entry near_note (expected_in (near_side_wanted s) t) nears t
  pub far : Holds cost_at_most cost_place far_entry far_note (expected_in far_side_wanted t) fars t
  pub covered : AllBeyond s t cover

-- A table that is ready with the numbers of the frontier, and small.
pub record Prepared (s : Search) (fr : Frontier) (t : List Node) : Type 0 where
  pub ready : Ready s fr.opened fr.nears fr.fars fr.cover t
  pub small : length t ≤ 4096

-- A node with another record and side.
abbrev pub with_kept : Node → Record → ℕ → Node
with_kept n kept side = record { kept = kept; low = n.low; hope = n.hope; near = n.near; far = n.far; side = side }

-- A place can be given the record and the side: the record is within its limits, and beyond the cover if the place is then on the far side.
pub record Puttable (s : Search) (fr : Frontier) (t : List Node) (place : ℕ) (kept : Record) (side : ℕ) : Type 0 where
  pub prepared : Prepared s fr t
  pub on : place < length t
  pub limits : RecordLimits kept
  pub beyond : (d : Node) → far_side (with_kept d kept side) ≡ true → within s fr.cover kept ≡ false

-- One entry more for a place that comes, one less for a place that goes.
abbrev pub counted_by : ℕ → Bool → Bool → ℕ
counted_by n comes goes = (n + cond comes 1 0) - cond goes 1 0

-- The place has the record, and the table is ready again, with the same cover.
pub record RecordPut (s : Search) (fr : Frontier) (t : List Node) (place : ℕ) (kept : Record) (fr' : Frontier) (t' : List Node) : Type 0 where
  pub prepared : Prepared s fr' t'
  pub records_set : records t' ≡ slice_set (records t) place kept
  pub same_cover : fr'.cover ≡ fr.cover
  pub same_length : length t' ≡ length t

-- The same with the sides and the numbers of places on each side.
pub record PutDone (s : Search) (fr : Frontier) (t : List Node) (place : ℕ) (kept : Record) (side : ℕ) (fr' : Frontier) (t' : List Node) : Type 0 where
  pub put : RecordPut s fr t place kept fr' t'
  pub there : (d : Node) → (get_or t' place d).side ≡ side
  pub others : (d : Node) (p : ℕ) → (p ≢ place) → ((get_or t' p d).kept ≡ (get_or t p d).kept) × ((get_or t' p d).side ≡ (get_or t p d).side)
  pub nears : (d : Node) → fr'.nears ≡ counted_by fr.nears (near_side (with_kept d kept side)) (near_side (slice_index_or t place d))
  pub fars : (d : Node) → fr'.fars ≡ counted_by fr.fars (far_side (with_kept d kept side)) (far_side (slice_index_or t place d))
