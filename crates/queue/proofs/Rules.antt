-- The queue's own rule after each call, and after a write to other parts of the records.
use Rattle.std.proofs.Common.{◌≡◌, ℕ, ◌+◌, ◌-◌, ◌<◌, Bool, List, map, length, arith}
use Rattle.queue.specs.Calls.{Inserted, RemovedAt, ReplacedAt}
use Rattle.queue.specs.Entries.{entries}
use Rattle.queue.specs.Rule.{QueueRule}
use Rattle.queue.proofs.Parts.{heap_kept}

module _ {R E : Type 0} (le : E → E → Bool) (get : R → E) (n : ℕ) (xs ys : List R) (long : length ys ≡ length xs) where
  pub rule_inserted : (e : E) → n < length xs → Inserted le e (entries get n xs) (entries get (n + 1) ys) → QueueRule le get n xs → QueueRule le get (n + 1) ys
  rule_inserted e room I Q = record { filled = omega arith; heap = I.heap Q.heap }

  pub rule_removed : (i : ℕ) → RemovedAt le i (entries get n xs) (entries get (n - 1) ys) → QueueRule le get n xs → QueueRule le get (n - 1) ys
  rule_removed i I Q = record { filled = omega arith; heap = I.heap Q.heap }

  pub rule_replaced : (i : ℕ) (e : E) → ReplacedAt le i e (entries get n xs) (entries get n ys) → QueueRule le get n xs → QueueRule le get n ys
  rule_replaced i e I Q = record { filled = omega arith; heap = I.heap Q.heap }

  -- a write to other parts of the records
  pub rule_kept : map get ys ≡ map get xs → QueueRule le get n xs → QueueRule le get n ys
  rule_kept same Q = record { filled = omega arith; heap = heap_kept get n xs ys same le Q.heap }
