-- What an advance reports, and an advance to the end. The contracts of the calls use these; what Calls says of an advance leaves
-- out the total of the report, and is what the runs of Runs are made of.
use Rattle.std.specs.Prelude.{◌≡◌, ℕ, List, Option, refl}
use Rattle.floors.specs.Guided.{Guided}
use Rattle.floors.specs.Questions.{first_no}
use Rattle.search_model.specs.declared.search.Search.{Search}
use Rattle.search_model.specs.Advance.{Answer, Outcome, expansions}
use Rattle.table.specs.declared.node.Node.{Node}
use Rattle.search.specs.Calls.{Told, TurnsTold}
use Rattle.search.specs.Questions.{advance_questions, end_questions}

-- What an advance tells: the answer; the expansions of this call, the total and the low mark; and the search afterwards.
pub record AdvanceReport : Type 0 where
  pub answer : Answer
  pub spent : ℕ
  pub total : ℕ
  pub mark : Option ℕ
  pub search_after : Search

-- What is told of an outcome.
abbrev pub advance_report_of : Outcome → AdvanceReport
advance_report_of o =
    record { answer = o.answer; spent = expansions o; total = o.search_after.total; mark = o.mark; search_after = o.search_after }

-- Turns of a running search up to a budget, where the number given is that of the first question that is answered no.
abbrev pub TurnsDone : Guided → Search → ℕ → Option ℕ → List Node → Told AdvanceReport → List Node → Type 0
TurnsDone = TurnsTold advance_report_of

-- An advance of a running search.
abbrev pub AdvanceReported : Guided → Search → ℕ → List Node → Told AdvanceReport → List Node → Type 0
AdvanceReported g s budget t = TurnsDone g s budget (first_no (advance_questions g.floor s budget t)) t

-- A budget that no search uses up over a table in order.
unfoldable pub end_budget : ℕ
end_budget = 1099511627775

pub end_budget_is : end_budget ≡ 1099511627775
unfolding end_budget
end_budget_is = refl

-- An advance of a running search to its end.
abbrev pub EndDone : Guided → Search → List Node → Told AdvanceReport → List Node → Type 0
EndDone g s t = TurnsDone g s end_budget (first_no (end_questions g.floor s t)) t
