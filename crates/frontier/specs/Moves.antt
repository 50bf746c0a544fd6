-- What the calls that change the frontier require and promise.
use Rattle.std.specs.Prelude.{◌≡◌, ℕ, ◌*◌, ◌<◌, ◌≤◌, Bool, true, false, List, length, get_or, Some, None, Option, ◌≢◌, nat_le, slice_index_or}
use Rattle.queue.specs.Keys.{near_at_most}
use Rattle.queue.specs.declared.entry.NearEntry.{NearEntry}
use Rattle.roster.specs.Check.{expected_in}
use Rattle.roster.specs.Holds.{LeastExpected}
use Rattle.search_model.specs.declared.records.Record.{Record}
use Rattle.search_model.specs.declared.search.Search.{Search}
use Rattle.search_model.specs.Choice.{within}
use Rattle.search_model.specs.Fields.{RecordLimits}
use Rattle.search_model.specs.Records.{Seen}
use Rattle.frontier.specs.declared.frontier.Frontier.{Frontier}
use Rattle.table.specs.declared.node.Node.{Node}
use Rattle.frontier.specs.Frontier.{Prepared, AllBeyond, with_kept, counted_by, near_side, far_side, near_side_wanted}
use Rattle.table.specs.Order.{near_place_of}
use Rattle.table.specs.Table.{records}

-- A place can be given a label with the record.
pub record Labelled (s : Search) (fr : Frontier) (t : List Node) (place : ℕ) (kept : Record) : Type 0 where
  pub prepared : Prepared s fr t
  pub on : place < length t
  pub limits : RecordLimits kept
  pub opened : kept.mark ≡ 1

-- A place can be closed.
pub record Closing (s : Search) (fr : Frontier) (t : List Node) (place : ℕ) : Type 0 where
  pub prepared : Prepared s fr t
  pub on : place < length t
  pub seen : Seen (records t) place

-- A node on another side.
abbrev pub sided : Node → ℕ → Node
sided n side = with_kept n n.kept side

-- A place can be moved to the side: it is beyond the cover if it is then on the far side.
pub record Movable (s : Search) (fr : Frontier) (t : List Node) (place side : ℕ) : Type 0 where
  pub prepared : Prepared s fr t
  pub on : place < length t
  pub beyond : (d : Node) → far_side (sided (slice_index_or t place d) side) ≡ true → within s fr.cover (get_or t place d).kept ≡ false

-- The same records, and a table that is ready, with the given cover.
pub record Rearranged (s : Search) (t : List Node) (cover : ℕ) (fr' : Frontier) (t' : List Node) : Type 0 where
  pub prepared : Prepared s fr' t'
  pub same_records : records t' ≡ records t
  pub same_length : length t' ≡ length t
  pub covers : fr'.cover ≡ cover

-- The place is on the side.
pub record Moved (s : Search) (fr : Frontier) (t : List Node) (place side : ℕ) (fr' : Frontier) (t' : List Node) : Type 0 where
  pub same : Rearranged s t fr.cover fr' t'
  pub there : (d : Node) → (get_or t' place d).side ≡ side
  pub others : (d : Node) (p : ℕ) → (p ≢ place) → ((get_or t' p d).kept ≡ (get_or t p d).kept) × ((get_or t' p d).side ≡ (get_or t p d).side)
  pub nears : (d : Node) → fr'.nears ≡ counted_by fr.nears (near_side (sided (slice_index_or t place d) side)) (near_side (slice_index_or t place d))
  pub fars : (d : Node) → fr'.fars ≡ counted_by fr.fars (far_side (sided (slice_index_or t place d) side)) (far_side (slice_index_or t place d))

-- A place on a side, which then has an entry.
pub record OnSide (side : Node → Bool) (t : List Node) (n p : ℕ) : Type 0 where
  pub on : p < length t
  pub there : (d : Node) → side (slice_index_or t p d) ≡ true
  pub used : 0 < n

-- A place on the far side, or none where all of them are beyond the cover.
abbrev pub FarWithin : Search → Frontier → List Node → ℕ → Option ℕ → Type 0
FarWithin s fr t cover None = AllBeyond s t cover
FarWithin s fr t cover (Some p) = OnSide far_side t fr.fars p

-- The first entry of the near queue, if there is one, is within the cover.
abbrev pub EntryWithin : Search → ℕ → Option NearEntry → Type 0
EntryWithin s cover None = Unit {0}
EntryWithin s cover (Some e) = nat_le (s.bound.b * e.cost) (s.bound.a * cover) ≡ true

pub record HeadWithin (s : Search) (t : List Node) (cover : ℕ) : Type 0 where
  pub first : Option NearEntry
  pub least : LeastExpected near_at_most near_place_of (expected_in (near_side_wanted s) t) first
  pub close : EntryWithin s cover first

-- A place on the near side beyond the cover, or none where the first of them is within it.
abbrev pub NearBeyond : Search → Frontier → List Node → ℕ → Option ℕ → Type 0
NearBeyond s fr t cover None = HeadWithin s t cover
NearBeyond s fr t cover (Some p) = OnSide near_side t fr.nears p × ((d : Node) → within s cover (get_or t p d).kept ≡ false)

-- The cover is the given one.
abbrev pub Raised : Search → List Node → ℕ → Frontier → List Node → Type 0
Raised = Rearranged

-- The cover can be lowered.
pub record Lowered (s : Search) (fr : Frontier) (t : List Node) (least : ℕ) : Type 0 where
  pub prepared : Prepared s fr t
  pub lower : least ≤ fr.cover

-- The cover is the given one, and the first place on the near side is within it.
pub record Dropped (s : Search) (t : List Node) (least : ℕ) (fr' : Frontier) (t' : List Node) : Type 0 where
  pub same : Rearranged s t least fr' t'
  pub head : HeadWithin s t' least
