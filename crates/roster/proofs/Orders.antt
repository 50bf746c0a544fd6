-- The orders of the two kinds of entry, for callers whose entries are known.
use Rattle.std.proofs.Common.{rules}
use Rattle.queue.specs.Keys.{cost_at_most, near_at_most}
use Rattle.queue.specs.Order.{Ordered}

pub cost_ordered : Ordered cost_at_most
cost_ordered = record { total = λ x y. search rules; antisym = λ x y. search rules; trans = λ x y z. search rules }

pub near_ordered : Ordered near_at_most
near_ordered = record { total = λ x y. search rules; antisym = λ x y. search rules; trans = λ x y z. search rules }
