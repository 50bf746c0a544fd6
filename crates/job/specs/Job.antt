-- What a job on a layout does.
use Rattle.std.specs.Prelude.{◌≡◌, ℕ, true, List, length, IfOk, IfErr, Some, None, Ok, Err, vec_items, Option, Result, Vec}
use Rattle.std.specs.declared.alloc.Global.{Global}
use Rattle.floors.specs.Guided.{Guided, guided}
use Rattle.floors.specs.Questions.{first_no}
use Rattle.layout.specs.Intake.{floor_meaning, floor_guesses}
use Rattle.layout.specs.Layout.{counts, floor_of, guesses_of}
use Rattle.layout.specs.Verdict.{Verdict, accepted, refused, verdict}
use Rattle.search_model.specs.declared.bound.Bound.{Bound}
use Rattle.search_model.specs.declared.records.Record.{Record}
use Rattle.table.specs.declared.node.Node.{Node}
use Rattle.table.specs.Order.{in_order}
use Rattle.table.specs.Table.{records}
use Rattle.reading.specs.Trails.{written}
use Rattle.job.specs.declared.answer.Job.{Job}
use Rattle.job.specs.declared.fault.Layer.TheVariants.{Layout, Search}
use Rattle.job.specs.declared.refused.JobRefused.{JobRefused}
use Rattle.job.specs.Faults.{Refusal, refusal_of}
use Rattle.job.specs.Floors.{Answered, answer_as, answered, job_outcome, settled_route}
use Rattle.job.specs.Questions.{job_questions}

-- A job tells an answer, or a refusal.
pub data JobTold : Type 0 where
  done : Answered → JobTold
  turned_down : Refusal → JobTold

-- What a job comes to: what it tells, and the records and the list that it leaves.
pub record JobResult : Type 0 where
  pub told : JobTold
  pub records_after : List Record
  pub list_after : List ℕ

-- The guided floor that bytes describe.
abbrev pub described : List ℕ → Guided
described bs = guided (floor_of bs (counts bs)) (guesses_of bs (counts bs))

-- A refused job leaves records and list as they were.
abbrev pub turned_away : Refusal → List Node → List ℕ → JobResult
turned_away refusal t list = record { told = turned_down refusal; records_after = records t; list_after = list }

-- Over a floor, with the number of the first question that is answered no, if there is one.
abbrev pub result_over : Guided → ℕ → Bound → ℕ → List Node → List ℕ → Option ℕ → JobResult
result_over g start bound budget t list (Some number) = turned_away (record { layer = Search; number = number; at_record = 0 }) t list
result_over g start bound budget t list None =
    record {
      told = done (answered g.floor (job_outcome g start bound budget));
      records_after = (job_outcome g start bound budget).records;
      list_after = written (settled_route g.floor (job_outcome g start bound budget)) list;
    }

-- On bytes with this verdict of the intake.
abbrev pub result_on : Verdict → List ℕ → ℕ → Bound → ℕ → List Node → List ℕ → JobResult
result_on (refused number r) bs start bound budget t list = turned_away (record { layer = Layout; number = number; at_record = r }) t list
result_on accepted bs start bound budget t list =
    result_over (described bs) start bound budget t list (first_no (job_questions (described bs).floor start bound budget t (length list)))

-- The questions to the layout, then the questions to the search, then begin, one advance, and a read if settled.
abbrev pub job_result : List ℕ → ℕ → Bound → ℕ → List Node → List ℕ → JobResult
job_result bs = result_on (verdict bs) bs

-- What an answer tells.
abbrev pub job_told : Result Job JobRefused → JobTold
job_told (Ok j) = done (answer_as j.answer)
job_told (Err x) = turned_down (refusal_of x.fault)

-- A job on a layout.
pub record JobDone (layout : Vec ℕ Global) (start : ℕ) (bound : Bound) (budget : ℕ) (t : List Node) (list : List ℕ) (r : Result Job JobRefused) (t' : List Node) (list' : List ℕ) : Type 0 where
  -- the answer, the records and the list are the definition's
  pub said : job_told r ≡ (job_result (vec_items layout) start bound budget t list).told
  pub left : records t' ≡ (job_result (vec_items layout) start bound budget t list).records_after
  pub listed : list' ≡ (job_result (vec_items layout) start bound budget t list).list_after
  -- a refusal leaves the whole table as it was, and hands the layout back
  pub same : IfErr r (λ _. t' ≡ t)
  pub back : IfErr r (λ x. x.layout ≡ layout)
  -- an accepted job leaves a table in order, and hands on the floor that the bytes describe
  pub ordered : IfOk r (λ j. in_order (answer_as j.answer).advance.search_after t' ≡ true)
  pub floor : IfOk r (λ j. guided (floor_meaning j.floor) (floor_guesses j.floor) ≡ described (vec_items layout))
