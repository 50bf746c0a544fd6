use Rattle.table.proofs.OrderRebound.{rebound_order}
use Rattle.table.proofs.rebound.rebound_near.Goals as goal

pub returns-clause-order : goal.returns-clause-order
returns-clause-order c =
    rebound_order c.args.state _ c.args.opened _ c.args.table.now _ c.least_hope-least.ensures c.requires.limits c.requires.low c.requires.hope c.refill.ensures.only c.refill.ensures.near
