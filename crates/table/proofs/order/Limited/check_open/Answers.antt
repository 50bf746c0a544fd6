use Rattle.queue.specs.Keys.{cost_at_most}
use Rattle.table.specs.Order.{cost_place}
use Rattle.table.specs.Table.{open_entry}
use Rattle.table.proofs.OrderChecks.{asked_answer, open_answered}
use Rattle.table.proofs.order.Limited.check_open.Goals as goal

pub returns : goal.returns
returns g c =
    let right = c.args.self.now in
    let key = g.Q.Keyed.key in
    let seat_of = g.Q.Seated.seat_of in
    let a = open_answered key seat_of right.nodes.now c.check.result
    (asked_answer cost_at_most cost_place (λ n. (seat_of n).entry) (λ n. (seat_of n).note) (open_entry key) right.nodes.now c.check.result right.few right.limits c.check.ensures.answer)
    in
    record { answer = a.answer; held = a.held }
