use Rattle.floors.specs.Guided.{guided_sound}
use Rattle.search.proofs.CallRuns.{guarantee}
use Rattle.search.proofs.running.Running.begin.Goals as goal

pub returns : goal.returns
returns g c = record {
  done = c.begin_table.ensures;
  guaranteed =
      guarantee _ c.args.start c.args.bound c.args.table.now _ c.begin_table.new.table
      (guided_sound _ _ (g.F.Floor.sound c.args.floor.now) (g.F.GuidedFloor.limited c.args.floor.now))
      c.begin_table.ensures;
}
