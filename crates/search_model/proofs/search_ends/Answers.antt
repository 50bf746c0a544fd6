use Rattle.search_model.proofs.Potential.{ending}
use Rattle.search_model.proofs.search_ends.Goals as goal

pub returns : goal.returns
returns c = ending
