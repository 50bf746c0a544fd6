use Rattle.frontier.proofs.Trimming.{all_ended}
use Rattle.frontier.proofs.frontier.Frontier.finish.Goals as goal

pub returns : goal.returns
returns c = all_ended c.least_hope-least.result c.least_hope-least.ensures c.raise.ensures c.trim.ensures
