-- What the questions, put to a layout's bytes, answer.
use Rattle.std.specs.Prelude.{◌≡◌, ℕ, List, IfOk, Result}
use Rattle.layout.specs.declared.counts.Counts.{Counts}
use Rattle.layout.specs.declared.fault.LayoutFault.{LayoutFault}
use Rattle.layout.specs.Faults.{layout_verdict, says}
use Rattle.layout.specs.Formed.{Formed, Lawful}
use Rattle.layout.specs.Layout.{counts}
use Rattle.layout.specs.Verdict.{verdict}

pub record Checked (bs : List ℕ) (r : Result Counts LayoutFault) : Type 0 where
  -- the answer is the verdict
  pub said : says layout_verdict r ≡ verdict bs
  -- an accepted layout is divided, well formed and lawful
  pub divides : IfOk r (λ n. n ≡ counts bs)
  pub fine : IfOk r (λ n. Formed bs n × Lawful bs n)
