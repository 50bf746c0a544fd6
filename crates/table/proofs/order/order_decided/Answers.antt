use Rattle.table.proofs.OrderLaws.{order_law}
use Rattle.table.proofs.order.order_decided.Goals as goal

pub returns : goal.returns
returns c = order_law
