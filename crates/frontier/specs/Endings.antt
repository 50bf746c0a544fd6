-- What the end of an advance requires and promises.
use Rattle.std.specs.Prelude.{◌≡◌, ℕ, ◌<◌, true, List, length, get_or, ◌≢◌, slice_index_or}
use Rattle.search_model.specs.declared.search.Search.{Search}
use Rattle.search_model.specs.Choice.{within}
use Rattle.frontier.specs.declared.frontier.Frontier.{Frontier}
use Rattle.table.specs.declared.node.Node.{Node}
use Rattle.frontier.specs.Frontier.{Prepared, near_side}
use Rattle.frontier.specs.Moves.{Rearranged}
use Rattle.table.specs.Order.{InOrder}
use Rattle.table.specs.Table.{records}

-- A table that is ready with the given cover.
pub record Trimmable (s : Search) (fr : Frontier) (t : List Node) (least : ℕ) : Type 0 where
  pub prepared : Prepared s fr t
  pub covers : fr.cover ≡ least

pub record TrimmingAt (s : Search) (fr : Frontier) (t : List Node) (place least : ℕ) : Type 0 where
  pub trimmable : Trimmable s fr t least
  pub on : place < length t

-- The place is not on the near side, or within the cover.
abbrev pub NearWithin : Search → ℕ → List Node → ℕ → Type 0
NearWithin s least t p = (d : Node) → near_side (slice_index_or t p d) ≡ true → within s least (get_or t p d).kept ≡ true

-- One place is trimmed, and no other is changed.
pub record TrimmedAt (s : Search) (fr : Frontier) (t : List Node) (place least : ℕ) (fr' : Frontier) (t' : List Node) : Type 0 where
  pub same : Rearranged s t fr.cover fr' t'
  pub here : NearWithin s least t' place
  pub others : (p : ℕ) → (p ≢ place) → NearWithin s least t p → NearWithin s least t' p

-- The places below n are trimmed.
pub record Trimmed (s : Search) (t : List Node) (least n : ℕ) (fr' : Frontier) (t' : List Node) : Type 0 where
  pub same : Rearranged s t least fr' t'
  pub trimmed : (p : ℕ) → p < n → NearWithin s least t' p

-- The same records, and a table in order.
pub record Ended (s : Search) (t : List Node) (fr' : Frontier) (t' : List Node) : Type 0 where
  pub ordered : InOrder s fr'.opened fr'.nears t'
  pub same_records : records t' ≡ records t
  pub same_length : length t' ≡ length t
