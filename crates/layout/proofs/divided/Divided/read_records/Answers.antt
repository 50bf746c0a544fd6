use Rattle.std.proofs.Common.{rules}
use Rattle.layout.specs.Questions.{wrong_fixed, wrong_first, wrong_target, wrong_estimate}
use Rattle.layout.proofs.Verdicts.{then_past}
use Rattle.layout.proofs.divided.Divided.read_records.Goals as goal

pub returns : goal.returns
returns c =
    let bs = c.args.self.now.layout.now in
    let n = c.args.self.now.counts in
    then_past _ _ (c.in_ok-put.ensures (wrong_fixed bs n) 5 (λ r b q. search rules) (λ r f q. search rules))
    (then_past _ _ (c.in_ok-put-2.ensures (wrong_first bs n) 6 (λ r b q. search rules) (λ r f q. search rules))
    (then_past _ _ (c.in_ok-put-3.ensures (wrong_target bs n) 7 (λ r b q. search rules) (λ r f q. search rules))
    (c.put-4.ensures (wrong_estimate bs) 8 (λ r b q. search rules) (λ r f q. search rules))))
