use Rattle.floors.specs.Guided.{guided}
use Rattle.search.proofs.Accepting.{begin_done}
use Rattle.search.proofs.begin.begin_table.Goals as goal

pub returns : goal.returns
returns g c =
    begin_done (guided (g.F.Floor.meaning c.args.floor.now) (g.F.GuidedFloor.guesses c.args.floor.now)) c.args.start c.args.bound c.places.result c.labelled.result c.args.table.now c.set_up.new.table
    c.in_ok-ask_begin.ensures.answer c.in_ok-ask_begin.ensures.bounded c.places.ensures c.labelled.ensures c.set_up.ensures.kept c.set_up.ensures.order
