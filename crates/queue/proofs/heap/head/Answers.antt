use Rattle.std.proofs.Common.{rules}
use Rattle.queue.proofs.Heads.{head_read}
use Rattle.queue.proofs.heap.head.Goals as goal

pub returns : goal.returns
returns g c = head_read g.R.Slot.entry_of g.R.Entry.Ranked.at_most g.met.R.Entry.Ranked.ordered c.args.n c.args.slots.now c.first.result _ _ c.requires c.first.ensures.item.3 c.map.ensures.cases (λ x e p. search rules)
