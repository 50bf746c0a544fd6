use Rattle.search.proofs.Runs.{guarantee}
use Rattle.search.proofs.guarantee_holds.Goals as goal

pub returns : goal.returns
returns c = guarantee
