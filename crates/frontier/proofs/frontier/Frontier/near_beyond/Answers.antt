use Rattle.std.proofs.Common.{rules}
use Rattle.frontier.proofs.Chains.{filtered, mapped}
use Rattle.frontier.proofs.Sides.{near_past}
use Rattle.frontier.proofs.frontier.Frontier.near_beyond.Goals as goal

pub returns : goal.returns
returns c =
    near_past c.requires c.args.cover c.head.result c.head.ensures
    (filtered c.head.result c.filter.result c.filter.ensures (λ e b q. search rules))
    (mapped c.filter.result c.map.result c.map.ensures.cases (λ e p q. search rules))
