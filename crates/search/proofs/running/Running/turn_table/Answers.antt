use Rattle.search.proofs.Turning.{turns_ordered}
use Rattle.search.proofs.running.Running.turn_table.Goals as goal

pub returns : goal.returns
returns g c = turns_ordered c.take_turns-stopped.ensures c.finish.ensures
