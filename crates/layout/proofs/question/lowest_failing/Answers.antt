use Rattle.std.proofs.Common.{rules, ◌≡◌, true, false, sym}
use Rattle.std.proofs.lemmas.Iterator.{first_from_Range}
use Rattle.layout.proofs.Lowests.{first_is_lowest}
use Rattle.layout.proofs.question.lowest_failing.Goals as goal

pub returns : goal.returns
returns g c test answers =
    first_is_lowest test c.args.records c.find.result (first_from_Range _ _ _ _ (λ k. test k ≡ true) (λ k. test k ≡ false) c.find.ensures.ran
    (λ x q k. sym (answers x true (search rules)))
    (λ x q k. (search rules, sym (answers x false (search rules)))))
