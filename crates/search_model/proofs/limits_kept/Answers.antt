use Rattle.search_model.proofs.Limits.{limits_kept}
use Rattle.search_model.proofs.limits_kept.Goals as goal

pub returns : goal.returns
returns c = limits_kept
