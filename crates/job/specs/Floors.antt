-- What a job does over a floor.
use Rattle.std.specs.Prelude.{◌≡◌, ℕ, true, false, List, length, is_some, Some, None, Option}
use Rattle.floors.specs.Guided.{Guided}
use Rattle.floors.specs.Meaning.{Meaning}
use Rattle.floors.specs.Questions.{first_no, unless}
use Rattle.search_model.specs.declared.bound.Bound.{Bound}
use Rattle.search_model.specs.Advance.{Barren, Settled, More, Outcome, going}
use Rattle.search_model.specs.Begin.{first_records, first_search}
use Rattle.search_model.specs.Read.{Trail, read_route}
use Rattle.table.specs.declared.node.Node.{Node}
use Rattle.table.specs.Order.{in_order}
use Rattle.table.specs.Table.{records}
use Rattle.reading.specs.Trails.{measured, written}
use Rattle.search.specs.Calls.{Told, asked}
use Rattle.search.specs.Reports.{AdvanceReport, advance_report_of}
use Rattle.search.specs.Told.{reported}
use Rattle.job.specs.declared.answer.JobAnswer.{JobAnswer}
use Rattle.job.specs.declared.answer.JobAnswer.TheVariants as answers
use Rattle.job.specs.Questions.{job_questions}

-- What is told: the advance, and of a settled search how many places its route has and what it costs.
pub record Answered : Type 0 where
  pub advance : AdvanceReport
  pub route : Option (ℕ × ℕ)

-- What an answer tells.
abbrev pub answer_as : JobAnswer → Answered
answer_as (answers.More s r) = record { advance = reported More r s.state; route = None }
answer_as (answers.Settled s r pair) = record { advance = reported (Settled s.goal) r s.state; route = Some pair }
answer_as (answers.Barren s r) = record { advance = reported Barren r s.state; route = None }

-- One advance from a begin.
abbrev pub job_outcome : Guided → ℕ → Bound → ℕ → Outcome
job_outcome g start bound budget = going g budget (first_search g start bound) (first_records g start)

-- The route of a settled search; none of another.
abbrev pub settled_route : Meaning → Outcome → Option Trail
settled_route m o = elim o.answer [ Barren ↦ None | Settled n ↦ read_route m o.search_after o.records n | More ↦ None ]

-- What is told of an outcome.
abbrev pub answered : Meaning → Outcome → Answered
answered m o = record { advance = advance_report_of o; route = measured (settled_route m o) }

-- A job over a floor: begun, advanced once, and read if settled, where no question is answered no; otherwise nothing is changed.
pub record FloorJobDone (g : Guided) (start : ℕ) (bound : Bound) (budget : ℕ) (t : List Node) (list : List ℕ) (a : Told Answered) (t' : List Node) (list' : List ℕ) : Type 0 where
  pub said : a ≡ asked (first_no (job_questions g.floor start bound budget t (length list))) (answered g.floor (job_outcome g start bound budget))
  pub left : records t' ≡ unless (first_no (job_questions g.floor start bound budget t (length list))) (job_outcome g start bound budget).records (records t)
  pub listed : list' ≡ unless (first_no (job_questions g.floor start bound budget t (length list))) (written (settled_route g.floor (job_outcome g start bound budget)) list) list
  pub same : is_some (first_no (job_questions g.floor start bound budget t (length list))) ≡ true → t' ≡ t
  pub ordered : is_some (first_no (job_questions g.floor start bound budget t (length list))) ≡ false → in_order (job_outcome g start bound budget).search_after t' ≡ true
