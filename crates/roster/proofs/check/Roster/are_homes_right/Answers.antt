use Rattle.std.proofs.Common.{refl, rules}
use Rattle.roster.proofs.Checking.{tested_ran}
use Rattle.roster.proofs.check.Roster.are_homes_right.Goals as goal

pub returns : goal.returns
returns g c = tested_ran _ _ _ _ _ c.all.ensures.ran refl (λ k b q h. search rules)
