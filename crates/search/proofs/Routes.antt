-- A read, from what its parts promise.
use Rattle.std.proofs.Common.{◌≡◌, ℕ, ◌≤◌, List, Some, sym, arith}
use Rattle.floors.specs.Meaning.{Meaning}
use Rattle.reading.specs.Trails.{measured}
use Rattle.reading.proofs.Writing.{measured_few}
use Rattle.search_model.specs.declared.search.Search.{Search}
use Rattle.search_model.specs.Read.{read_route}
use Rattle.table.specs.declared.node.Node.{Node}
use Rattle.table.specs.Table.{records}

module _ (m : Meaning) (s : Search) (goal : ℕ) (t : List Node) (room : ℕ) (pair : ℕ × ℕ) (is : Some pair ≡ measured (read_route m s (records t) goal)) where
  pub few_places : s.size ≤ room → pair.0 ≤ room
  few_places fits = omega (arith, measured_few m s.start (records t) s.size goal pair.0 pair.1 (sym is))
