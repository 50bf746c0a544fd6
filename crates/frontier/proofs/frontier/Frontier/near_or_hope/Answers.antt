use Rattle.std.proofs.Common.{rules}
use Rattle.frontier.proofs.Chains.{filtered, mapped_or}
use Rattle.frontier.proofs.Firsts.{near_or_hope_chosen}
use Rattle.frontier.proofs.frontier.Frontier.near_or_hope.Goals as goal

pub returns : goal.returns
returns c =
    near_or_hope_chosen c.requires c.head.result c.head.ensures
    (filtered c.head.result c.filter.result c.filter.ensures (λ e b q. search rules))
    (mapped_or c.filter.result c.map_or.result c.args.hope c.map_or.ensures (λ e q. search rules))
