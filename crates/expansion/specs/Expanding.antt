-- What the expansion of a place over a table requires and promises.
use Rattle.std.specs.Prelude.{◌≡◌, ℕ, ◌<◌, List, length}
use Rattle.floors.specs.Guided.{Guided}
use Rattle.floors.specs.Meaning.{Meaning}
use Rattle.search_model.specs.declared.search.Search.{Search}
use Rattle.search_model.specs.Expansion.{offer, expanded}
use Rattle.search_model.specs.Records.{Seen}
use Rattle.frontier.specs.declared.frontier.Frontier.{Frontier}
use Rattle.table.specs.declared.node.Node.{Node}
use Rattle.frontier.specs.Frontier.{Prepared}
use Rattle.table.specs.Table.{records}

-- A place can be offered a label.
pub record Offerable (s : Search) (fr : Frontier) (t : List Node) (place : ℕ) : Type 0 where
  pub prepared : Prepared s fr t
  pub on : place < length t

-- The label has been offered to the place by way of a parent and one of its legs: the table has the records of the definition, and is prepared again.
pub record Offered (g : Guided) (s : Search) (t : List Node) (place label parent leg : ℕ) (fr' : Frontier) (t' : List Node) : Type 0 where
  pub prepared : Prepared s fr' t'
  pub records_are : records t' ≡ offer g place label parent leg (records t)
  pub same_length : length t' ≡ length t

-- A place can be expanded: it is seen, and the table has a node for each place of the floor.
pub record Expandable (m : Meaning) (s : Search) (fr : Frontier) (t : List Node) (place : ℕ) : Type 0 where
  pub prepared : Prepared s fr t
  pub sized : length t ≡ m.size
  pub seen : Seen (records t) place

-- The place is expanded: the table has the records of the definition, and is prepared again.
pub record Expanded (g : Guided) (s : Search) (t : List Node) (place : ℕ) (fr' : Frontier) (t' : List Node) : Type 0 where
  pub prepared : Prepared s fr' t'
  pub records_are : records t' ≡ expanded g place (records t)
  pub same_length : length t' ≡ length t
