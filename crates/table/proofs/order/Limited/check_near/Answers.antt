use Rattle.queue.specs.Keys.{near_at_most}
use Rattle.table.specs.Order.{near_place_of}
use Rattle.table.specs.Seats.{near_entry, near_note}
use Rattle.table.specs.Table.{near_wanted}
use Rattle.table.proofs.OrderChecks.{asked_answer}
use Rattle.table.proofs.order.Limited.check_near.Goals as goal

pub returns : goal.returns
returns c =
    let right = c.args.self.now in
    asked_answer near_at_most near_place_of near_entry near_note (near_wanted c.args.near.state c.args.near.least) right.nodes.now c.check.result right.few right.limits c.check.ensures.answer
