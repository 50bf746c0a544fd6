-- Nodes: the node of a place, a node with another record and side, and what the queues read of it.
use Rattle.std.proofs.Common.{ℕ, Bool, cond, List, get_or, set, Some, None, Option}
use Rattle.search_model.specs.declared.records.Record.{Record}
use Rattle.table.specs.declared.node.Node.{Node}
use Rattle.table.specs.Fresh.{blank_node}
use Rattle.frontier.specs.Frontier.{with_kept}

-- The node of a place, and the table with its record and side changed.
abbrev pub node_at : List Node → ℕ → Node
node_at t place = get_or t place blank_node

abbrev pub renewed : List Node → ℕ → Record → ℕ → Node
renewed t place kept side = with_kept (node_at t place) kept side

abbrev pub written : List Node → ℕ → Record → ℕ → List Node
written t place kept side = set t place (renewed t place kept side)

-- What expectations read of a node, and a node that has it.
abbrev pub face : Node → Record × ℕ
face n = (n.kept, n.side)

abbrev pub faced : Record × ℕ → Node
faced x = with_kept blank_node x.0 x.1

-- An entry that is wanted of the nodes that pass a test.
abbrev pub want_if : {E : Type 0} → (Node → Bool) → (Node → ℕ → E) → Node → ℕ → Option E
want_if test entry n p = cond (test n) (Some (entry n p)) None
