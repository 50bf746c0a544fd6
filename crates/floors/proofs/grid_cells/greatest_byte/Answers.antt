use Rattle.std.proofs.Common.{◌≡◌, sym, subst, rules}
use Rattle.std.proofs.iter.runs.Made.{chains}
use Rattle.floors.specs.Bytes.{IsGreatest, greatest_is}
use Rattle.floors.specs.Grid.{greatest}
use Rattle.floors.proofs.grid_cells.greatest_byte.Goals as goal

pub returns-clause-greatest : goal.returns-clause-greatest
returns-clause-greatest c =
    let whole : c.fold.result ≡ greatest c.args.cells.now = search (rules, chains) in
    subst (IsGreatest c.args.cells.now) (sym whole) (greatest_is c.args.cells.now)
