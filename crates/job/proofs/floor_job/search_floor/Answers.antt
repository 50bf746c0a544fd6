use Rattle.job.proofs.Jobs.{never_read, job_more, job_barren, job_settled}
use Rattle.job.proofs.floor_job.search_floor.Goals as goal

pub returns-in_err-route-in-Settled : goal.returns-in_err-route-in-Settled
returns-in_err-route-in-Settled g c =
    absurd (never_read _ c.args.start c.args.bound c.args.budget c.args.table.now c.args.list.now c.in_ok-ask.ensures
    c.in_ok-running.running.state _ c.in_ok-running.ensures.done c.in_ok-running.ensures.guaranteed
    c.in_ok-advanced.advanced _ c.in_ok-advanced.ensures.done c.in-Settled.settled c.in-Settled.report c.in-Settled.is _ _ c.in_err-route-in-Settled.ensures)

pub returns-in-More : goal.returns-in-More
returns-in-More g c =
    let p = job_more _ c.args.start c.args.bound c.args.budget c.args.table.now c.args.list.now c.in_ok-ask.ensures
    c.in_ok-running.running.state _ c.in_ok-running.ensures.done c.in_ok-running.ensures.guaranteed
    c.in_ok-advanced.advanced _ c.in_ok-advanced.ensures.done c.in-More.running c.in-More.report c.in-More.is in
    record { done = p.0; kept = p.1 }

pub returns-in_ok-route-in-Settled : goal.returns-in_ok-route-in-Settled
returns-in_ok-route-in-Settled g c =
    let p = job_settled _ c.args.start c.args.bound c.args.budget c.args.table.now c.args.list.now c.in_ok-ask.ensures
    c.in_ok-running.running.state _ c.in_ok-running.ensures.done c.in_ok-running.ensures.guaranteed
    c.in_ok-advanced.advanced _ c.in_ok-advanced.ensures.done c.in-Settled.settled c.in-Settled.report c.in-Settled.is c.in_ok-route-in-Settled.route _ c.in_ok-route-in-Settled.ensures in
    record { done = p.0; kept = p.1 }

pub returns-in-Barren : goal.returns-in-Barren
returns-in-Barren g c =
    let p = job_barren _ c.args.start c.args.bound c.args.budget c.args.table.now c.args.list.now c.in_ok-ask.ensures
    c.in_ok-running.running.state _ c.in_ok-running.ensures.done c.in_ok-running.ensures.guaranteed
    c.in_ok-advanced.advanced _ c.in_ok-advanced.ensures.done c.in-Barren.barren c.in-Barren.report c.in-Barren.is in
    record { done = p.0; kept = p.1 }
