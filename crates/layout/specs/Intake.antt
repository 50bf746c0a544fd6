-- What the intake answers.
use Rattle.std.specs.Prelude.{◌≡◌, ℕ, IfOk, IfErr, vec_items, Result, Vec}
use Rattle.std.specs.declared.alloc.Global.{Global}
use Rattle.floors.specs.Guided.{Guesses}
use Rattle.floors.specs.Meaning.{Meaning}
use Rattle.layout.specs.declared.counts.Counts.{Counts}
use Rattle.layout.specs.declared.layout_floor.LayoutFloor.{LayoutFloor}
use Rattle.layout.specs.declared.refused.Refused.{Refused}
use Rattle.layout.specs.Faults.{layout_verdict, says}
use Rattle.layout.specs.Layout.{counts, floor_of, guesses_of}
use Rattle.layout.specs.Verdict.{verdict}

-- The bytes that a layout's floor keeps, how they divide, and what the floor means by them, guesses included.
abbrev pub floor_bytes : LayoutFloor → Vec ℕ Global
floor_bytes f = f.layout

abbrev pub floor_counts : LayoutFloor → Counts
floor_counts f = f.counts

abbrev pub floor_meaning : LayoutFloor → Meaning
floor_meaning f = floor_of (vec_items f.layout) f.counts

abbrev pub floor_guesses : LayoutFloor → Guesses
floor_guesses f = guesses_of (vec_items f.layout) f.counts

pub record Taken (layout : Vec ℕ Global) (r : Result LayoutFloor Refused) : Type 0 where
  -- the answer is the verdict of the questions: accepted, or the number and record of the first no
  pub said : says (λ (x : Refused). layout_verdict x.fault) r ≡ verdict (vec_items layout)
  -- an accepted layout's floor means what its bytes describe, guesses included, and keeps the
  -- bytes as they divide
  pub floor : IfOk r (λ f. (floor_meaning f ≡ floor_of (vec_items layout) (counts (vec_items layout)))
      × (floor_guesses f ≡ guesses_of (vec_items layout) (counts (vec_items layout)))
      × (floor_bytes f ≡ layout) × (floor_counts f ≡ counts (vec_items layout)))
  -- a refusal hands the bytes back as they were
  pub back : IfErr r (λ x. x.layout ≡ layout)
