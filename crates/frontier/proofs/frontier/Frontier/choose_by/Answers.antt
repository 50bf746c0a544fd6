use Rattle.std.proofs.Common.{rules}
use Rattle.frontier.proofs.Chains.{filtered}
use Rattle.frontier.proofs.Firsts.{near_ready, low_chosen, still_ready}
use Rattle.frontier.proofs.frontier.Frontier.choose_by.Goals as goal

pub returns-in_default : goal.returns-in_default
returns-in_default c = record {
  still = still_ready c.requires.choosing.prepared;
  is_choice =
      low_chosen c.requires.choosing c.args.mark c.head-head.result c.head-head.ensures
      (filtered c.head-head.result c.filter.result c.filter.ensures (λ e b q. search rules)) c.args.low c.requires.is_low c.in_default.is;
}

pub near_or_hope-requires : goal.near_or_hope-requires
near_or_hope-requires c =
    near_ready c.requires.choosing c.args.mark c.head-head.result c.head-head.ensures
    (filtered c.head-head.result c.filter.result c.filter.ensures (λ e b q. search rules)) c.in-Some.hope c.in-Some.is c.gather.ensures
