-- A job on a layout, from what the intake and the search promise.
use Rattle.std.proofs.Common.{◌≡◌, ℕ, true, List, length, is_some, Some, None, Ok, Err, vec_items, Option, Vec, sym, refl, ap, ◌∙◌, subst, ap₂, arith}
use Rattle.std.specs.declared.alloc.Global.{Global}
use Rattle.floors.specs.Guided.{guided}
use Rattle.floors.specs.Questions.{first_no, unless}
use Rattle.layout.specs.declared.fault.RecordFault.{RecordFault}
use Rattle.layout.specs.declared.fault.RecordFault.TheVariants.{Tag, FixedBytes, FirstLeg, Target, Estimate}
use Rattle.layout.specs.declared.layout_floor.LayoutFloor.{LayoutFloor}
use Rattle.layout.specs.Faults.{record_verdict}
use Rattle.layout.specs.Intake.{Taken, floor_meaning, floor_guesses}
use Rattle.layout.specs.Verdict.{Verdict, accepted, verdict, number_of, record_of}
use Rattle.layout.specs.Verdict as verdicts
use Rattle.search_model.specs.declared.bound.Bound.{Bound}
use Rattle.search_model.specs.Advance.{Outcome}
use Rattle.table.specs.declared.node.Node.{Node}
use Rattle.table.specs.Order.{in_order}
use Rattle.table.specs.Table.{records}
use Rattle.reading.specs.Trails.{written}
use Rattle.search.specs.Calls.{told, refused, asked}
use Rattle.search.specs.Faults.{search_number}
use Rattle.search.specs.declared.fault.SearchFault.{SearchFault}
use Rattle.job.specs.declared.answer.JobAnswer.{JobAnswer}
use Rattle.job.specs.declared.fault.JobFault.TheVariants.{Search}
use Rattle.job.specs.declared.refused.JobRefused.{JobRefused}
use Rattle.job.specs.Floors.{Answered, answer_as, answered, job_outcome, settled_route, FloorJobDone}
use Rattle.job.specs.Job.{done, JobResult, described, result_on, result_over, job_result, JobDone}
use Rattle.job.specs.Kept.{JobKept}
use Rattle.job.specs.Questions.{job_questions}

-- A fault is a refusal by its number and record.
record_refused : (f : RecordFault) → record_verdict f ≡ verdicts.refused (number_of (record_verdict f)) (record_of (record_verdict f))
record_refused (Tag r) = refl
record_refused (FixedBytes r) = refl
record_refused (FirstLeg r) = refl
record_refused (Target r) = refl
record_refused (Estimate r) = refl

-- An answer that is told comes of no question that is answered no, a refusal of one.
told_by : (first : Option ℕ) (x y : Answered) → told x ≡ asked first y → (first ≡ None) × (x ≡ y)
told_by None x y e = (refl, cc)
told_by (Some k) x y e = let w : ◌≡◌ {A = ℕ} 0 1 = cc in absurd (omega arith)

refused_by : (first : Option ℕ) (k : ℕ) (y : Answered) → refused k ≡ asked first y → first ≡ Some k
refused_by None k y e = let w : ◌≡◌ {A = ℕ} 0 1 = cc in absurd (omega arith)
refused_by (Some n) k y e = let same : k ≡ n = cc in ap Some (sym same)

module _ (layout : Vec ℕ Global) (start : ℕ) (bound : Bound) (budget : ℕ) (t : List Node) (list : List ℕ) where
  -- the outcome of the search, and the list with its route
  abbrev outcome : Outcome
  outcome = job_outcome (described (vec_items layout)) start bound budget

  abbrev route_list : List ℕ
  route_list = written (settled_route (described (vec_items layout)).floor outcome) list

  -- The layout is accepted.
  module _ (f : LayoutFloor) (taken : Taken layout (Ok f)) where
    is_described : guided (floor_meaning f) (floor_guesses f) ≡ described (vec_items layout)
    is_described = ap₂ guided taken.floor.0 taken.floor.1

    result : job_result (vec_items layout) start bound budget t list ≡ result_on accepted (vec_items layout) start bound budget t list
    result = ap (λ v. result_on v (vec_items layout) start bound budget t list) (sym taken.said)

    -- with the number of the first question that is answered no
    over : (first : Option ℕ) → first_no (job_questions (described (vec_items layout)).floor start bound budget t (length list)) ≡ first → job_result (vec_items layout) start bound budget t list ≡ result_over (described (vec_items layout)) start bound budget t list first
    over first e = result ∙ ap (result_over (described (vec_items layout)) start bound budget t list) e

    -- The search is refused.
    pub search_refused :
        (fault : SearchFault) (r : JobRefused) (t₂ : List Node) (list₂ : List ℕ)
        → FloorJobDone (guided (floor_meaning f) (floor_guesses f)) start bound budget t list (refused (search_number fault)) t₂ list₂
        → r ≡ record { fault = Search fault; layout = f.layout }
        → JobDone layout start bound budget t list (Err r) t₂ list₂
    search_refused fault r t₂ list₂ did is =
        let d : FloorJobDone (described (vec_items layout)) start bound budget t list (refused (search_number fault)) t₂ list₂ =
        subst (λ g. FloorJobDone g start bound budget t list (refused (search_number fault)) t₂ list₂) is_described did in
        let first = first_no (job_questions (described (vec_items layout)).floor start bound budget t (length list)) in
        let some : first ≡ Some (search_number fault) = refused_by first (search_number fault) (answered (described (vec_items layout)).floor outcome) d.said in
        let whole = over (Some (search_number fault)) some in
        subst (λ y. JobDone layout start bound budget t list (Err y) t₂ list₂) (sym is)
        (record {
          said = sym (ap (λ (y : JobResult). y.told) whole);
          left = ap records (d.same (ap is_some some)) ∙ sym (ap (λ (y : JobResult). y.records_after) whole);
          listed = d.listed ∙ ap (λ x. unless x route_list list) some ∙ sym (ap (λ (y : JobResult). y.list_after) whole);
          same = d.same (ap is_some some);
          back = taken.floor.2;
          ordered = tt;
          floor = tt;
        })

    -- The job is done.
    pub job_done :
        (a : JobAnswer) (t₂ : List Node) (list₂ : List ℕ)
        → FloorJobDone (guided (floor_meaning f) (floor_guesses f)) start bound budget t list (told (answer_as a)) t₂ list₂
        → JobDone layout start bound budget t list (Ok (record { floor = f; answer = a })) t₂ list₂
    job_done a t₂ list₂ did =
        let d : FloorJobDone (described (vec_items layout)) start bound budget t list (told (answer_as a)) t₂ list₂ =
        subst (λ g. FloorJobDone g start bound budget t list (told (answer_as a)) t₂ list₂) is_described did in
        let first = first_no (job_questions (described (vec_items layout)).floor start bound budget t (length list)) in
        let by = told_by first (answer_as a) (answered (described (vec_items layout)).floor outcome) d.said in
        let whole = over None by.0 in
        record {
          said = ap done by.1 ∙ sym (ap (λ (y : JobResult). y.told) whole);
          left = d.left ∙ ap (λ x. unless x outcome.records (records t)) by.0 ∙ sym (ap (λ (y : JobResult). y.records_after) whole);
          listed = d.listed ∙ ap (λ x. unless x route_list list) by.0 ∙ sym (ap (λ (y : JobResult). y.list_after) whole);
          same = tt;
          back = tt;
          ordered = subst (λ (y : Answered). in_order y.advance.search_after t₂ ≡ true) (sym by.1) (d.ordered (ap is_some by.0));
          floor = is_described;
        }

    pub job_keeps :
        (a : JobAnswer) (t₂ : List Node) (list₂ : List ℕ)
        → JobKept (guided (floor_meaning f) (floor_guesses f)) start bound budget (answer_as a) t₂ list list₂
        → JobKept (described (vec_items layout)) start bound budget (answer_as a) t₂ list list₂
    job_keeps a t₂ list₂ = subst (λ g. JobKept g start bound budget (answer_as a) t₂ list list₂) is_described
