use Rattle.search_model.proofs.Guaranteed.{guarantee}
use Rattle.search_model.proofs.guarantee_holds.Goals as goal

pub returns : goal.returns
returns c = guarantee
