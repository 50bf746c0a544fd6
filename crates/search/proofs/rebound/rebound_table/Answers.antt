use Rattle.search.proofs.Accepting.{rebound_done}
use Rattle.search.proofs.rebound.rebound_table.Goals as goal

pub returns : goal.returns
returns c =
    rebound_done c.args.state c.args.bound c.in_ok-queued.queued.opened c.rebound_near.result c.args.table.now c.rebound_near.new.table
    c.in_ok-queued.ensures.answer c.rebound_near.ensures.kept c.rebound_near.ensures.order
