use Rattle.cases.proofs.Calls.{premises}
use Rattle.cases.proofs.premises_met.Goals as goal

pub returns : goal.returns
returns c = premises
