-- The parts of the records under test, what they expect, and what it is for their two queues to hold it.
use Rattle.std.specs.Prelude.{ℕ, cond, List, Some, None, Option, ◌==◌}
use Rattle.queue.specs.Keys.{cost_at_most}
use Rattle.queue.specs.declared.entry.CostEntry.{CostEntry}
use Rattle.roster.specs.Holds.{Holds}
use Rattle.roster_tests.specs.declared.Node.{Node}

abbrev pub with_low : Node → CostEntry → Node
with_low n e = record { plan = n.plan; low = e; low_slot = n.low_slot; far = n.far; far_slot = n.far_slot }

abbrev pub with_low_slot : Node → ℕ → Node
with_low_slot n s = record { plan = n.plan; low = n.low; low_slot = s; far = n.far; far_slot = n.far_slot }

abbrev pub with_far : Node → CostEntry → Node
with_far n e = record { plan = n.plan; low = n.low; low_slot = n.low_slot; far = e; far_slot = n.far_slot }

abbrev pub with_far_slot : Node → ℕ → Node
with_far_slot n s = record { plan = n.plan; low = n.low; low_slot = n.low_slot; far = n.far; far_slot = s }

abbrev pub with_plan : Node → ℕ → Node
with_plan n p = record { plan = p; low = n.low; low_slot = n.low_slot; far = n.far; far_slot = n.far_slot }

-- A node with a plan other than 0 expects that cost in its low queue.
abbrev pub planned : Node → ℕ → Option CostEntry
planned n h = cond (n.plan == 0) None (Some (record { cost = n.plan; place = h }))

abbrev pub LowHolds : (ℕ → Option CostEntry) → ℕ → List Node → Type 0
LowHolds = Holds cost_at_most (λ e. e.place) (λ n. n.low) (λ n. n.low_slot)

abbrev pub FarHolds : (ℕ → Option CostEntry) → ℕ → List Node → Type 0
FarHolds = Holds cost_at_most (λ e. e.place) (λ n. n.far) (λ n. n.far_slot)
