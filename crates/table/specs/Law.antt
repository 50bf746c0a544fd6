-- The test of a table decides whether it is in order.
use Rattle.std.specs.Prelude.{◌≡◌, ℕ, true, List}
use Rattle.search_model.specs.declared.search.Search.{Search}
use Rattle.table.specs.declared.node.Node.{Node}
use Rattle.table.specs.Table.{records, least_hope}
use Rattle.table.specs.Order.{in_order, InOrder}
use Rattle.table.specs.Asked.{open_count, near_count}

pub record OrderLaw : Type 0 where
  pub holds : (s : Search) (t : List Node) → in_order s t ≡ true → InOrder s (open_count t) (near_count s (least_hope (records t)) t) t
  pub tested : (s : Search) (opened nears : ℕ) (t : List Node) → InOrder s opened nears t → in_order s t ≡ true
