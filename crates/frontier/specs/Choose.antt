-- What a choice requires and promises.
use Rattle.std.specs.Prelude.{◌≡◌, ℕ, ◌≤◌, true, List, length, Some, None, Option}
use Rattle.search_model.specs.declared.records.Record.{Record}
use Rattle.search_model.specs.declared.search.Search.{Search}
use Rattle.search_model.specs.Advance.{low_mark}
use Rattle.search_model.specs.Choice.{within, choice, low_place, hope_place}
use Rattle.search_model.specs.Records.{at, f_hat}
use Rattle.frontier.specs.declared.choose.Choice.{Choice}
use Rattle.frontier.specs.declared.frontier.Frontier.{Frontier}
use Rattle.table.specs.declared.node.Node.{Node}
use Rattle.frontier.specs.Frontier.{Prepared}
use Rattle.frontier.specs.Moves.{HeadWithin}
use Rattle.table.specs.Table.{records}

-- A table that is ready, and a bound of at least 1.
pub record Choosing (s : Search) (fr : Frontier) (t : List Node) : Type 0 where
  pub prepared : Prepared s fr t
  pub bounded : s.bound.b ≤ s.bound.a

-- The same, with low.
pub record ChoosingBy (s : Search) (fr : Frontier) (t : List Node) (low : ℕ) : Type 0 where
  pub choosing : Choosing s fr t
  pub is_low : low_place (records t) ≡ Some low

-- The same, with hope, which is within the mark, and with the near side up to date for f̂ of hope.
pub record NearReady (s : Search) (fr : Frontier) (t : List Node) (hope mark : ℕ) : Type 0 where
  pub choosing : Choosing s fr t
  pub is_hope : hope_place (records t) ≡ Some hope
  pub close : within s mark (at (records t) hope) ≡ true
  pub covers : fr.cover ≡ f_hat (at (records t) hope)
  pub head : HeadWithin s t (f_hat (at (records t) hope))

-- The same records, and a table that is ready.
pub record StillReady (s : Search) (t : List Node) (fr' : Frontier) (t' : List Node) : Type 0 where
  pub prepared : Prepared s fr' t'
  pub same_records : records t' ≡ records t
  pub same_length : length t' ≡ length t

-- The place is the choice by the mark.
pub record ChosenBy (s : Search) (t : List Node) (mark : ℕ) (fr' : Frontier) (place : ℕ) (t' : List Node) : Type 0 where
  pub still : StillReady s t fr' t'
  pub is_choice : choice s mark (records t) ≡ Some place

-- The choice by the low mark, or none where nothing is open.
abbrev pub Picks : Search → List Record → Option Choice → Type 0
Picks s rs None = low_mark rs ≡ None
Picks s rs (Some c) = (low_mark rs ≡ Some c.mark) × (choice s c.mark rs ≡ Some c.place)

pub record Chosen (s : Search) (t : List Node) (fr' : Frontier) (picked : Option Choice) (t' : List Node) : Type 0 where
  pub still : StillReady s t fr' t'
  pub picks : Picks s (records t) picked
