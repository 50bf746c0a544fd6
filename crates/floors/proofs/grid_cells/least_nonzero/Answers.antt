use Rattle.std.proofs.Common.{◌≡◌, sym, subst, rules}
use Rattle.std.proofs.iter.runs.Made.{chains}
use Rattle.floors.specs.Bytes.{IsLeast, least_is}
use Rattle.floors.specs.Grid.{least_nonzero}
use Rattle.floors.proofs.grid_cells.least_nonzero.Goals as goal

pub returns-clause-least : goal.returns-clause-least
returns-clause-least c =
    let whole : c.fold.result ≡ least_nonzero c.args.cells.now = search (rules, chains) in
    subst (IsLeast c.args.cells.now) (sym whole) (least_is c.args.cells.now)
