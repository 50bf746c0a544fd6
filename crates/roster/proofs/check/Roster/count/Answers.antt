use Rattle.std.proofs.Common.{◌≡◌, length, is_some, ◌∙◌, arith, rules, tests}
use Rattle.std.proofs.lemmas.Iterator.{YieldsList-from_range}
use Rattle.std.proofs.lemmas.Iterator.Consumers.{YieldsList-from_filter, count_from_yields_List}
use Rattle.std.proofs.lemmas.List.Sums.{length-filter}
use Rattle.roster.specs.Check.{expected_in}
use Rattle.roster.specs.Holds.{expected_count}
use Rattle.roster.proofs.Counting.{expected_counted, expected_count_le}
use Rattle.roster.proofs.check.Roster.count.Goals as goal

pub returns : goal.returns
returns g c =
    let x = expected_in (g.M.Expect.wanted c.args.self.now.rule.now) c.args.self.now.slots.now in
    let n = length c.args.self.now.slots.now in
    let counted : c.count.result ≡ expected_count x n
    = count_from_yields_List c.filter.result _ c.count.ensures.ran
    (YieldsList-from_filter _ (λ h. is_some (x h)) (YieldsList-from_range 0 n n c.filter.ensures.source (omega arith)) c.filter.ensures.closure (λ y b q k. search (rules, tests)))
    ∙ length-filter (λ h. is_some (x h)) _
    ∙ expected_counted x n in
    record { count = counted; few = omega (arith, counted, expected_count_le x n) }
