use Rattle.std.proofs.Common.{◌≡◌, Some, sym, ◌∙◌}
use Rattle.reading.specs.Trails.{measured}
use Rattle.search_model.specs.Read.{read_route}
use Rattle.table.specs.Table.{records}
use Rattle.search.proofs.Routes.{few_places}
use Rattle.search.proofs.states.Settled.ask_read.Goals as goal

pub returns-clause-fits : goal.returns-clause-fits
returns-clause-fits g c =
    let m = g.F.Floor.meaning c.args.floor.now in
    let s = c.args.self.now in
    let route : Some c.in_ok-pair.pair ≡ measured (read_route m s.state (records c.args.table.now) s.goal) = sym c.in_ok-pair.ensures.ok_part ∙ c.measure.ensures in
    few_places m s.state s.goal c.args.table.now c.args.room c.in_ok-pair.pair route c.if-room-state.false
