use Rattle.std.proofs.Common.{None, sym, ◌∙◌}
use Rattle.table.specs.Asked.{records_right, queues_right, counted}
use Rattle.table.proofs.OrderChecks.{all_records, answered, when_second, when_first_fails}
use Rattle.table.proofs.order.check_order.Goals as goal

pub invariant_of-check_queues-clause-limits : goal.invariant_of-check_queues-clause-limits
invariant_of-check_queues-clause-limits c = sym (all_records c.args.table.now) ∙ sym c.are_right.ensures ∙ c.if-not-are_right.false

pub returns : goal.returns
returns c =
    let s = c.args.state in
    let t = c.args.table.now in
    let right = sym (all_records t) ∙ sym c.are_right.ensures ∙ c.if-not-are_right.false in
    let a = answered s t c.check_queues.result (when_second (records_right t) (queues_right s t) (counted s t) _ right c.check_queues.ensures) in
    record { answer = a.answer; holds = a.holds }

pub returns-then-not-are_right : goal.returns-then-not-are_right
returns-then-not-are_right c =
    let s = c.args.state in
    let t = c.args.table.now in
    let wrong = sym (all_records t) ∙ sym c.are_right.ensures ∙ c.if-not-are_right.true in
    let a = answered s t None (when_first_fails (records_right t) (queues_right s t) (counted s t) wrong) in
    record { answer = a.answer; holds = a.holds }
