use Rattle.std.proofs.Common.{◌≡◌, sym, ◌∙◌, rules}
use Rattle.queue.specs.Keys.{cost_at_most}
use Rattle.roster.proofs.Holding.{holds_head}
use Rattle.table.specs.Order.{cost_place}
use Rattle.table.specs.Seats.{hope_entry, hope_note}
use Rattle.table.proofs.OrderHead.{cost_or_0, head_hope}
use Rattle.table.proofs.order.least_hope.Goals as goal

pub returns : goal.returns
returns c =
    let cost : c.map_or.result ≡ cost_or_0 c.head.result = search rules in
    cost ∙ sym (head_hope c.args.table.now c.head.result (holds_head cost_at_most cost_place hope_entry hope_note c.requires c.head.result c.head.ensures))
