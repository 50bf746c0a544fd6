-- The turns of an advance over a table.
use Rattle.std.specs.Prelude.{◌≡◌, ℕ, true, List}
use Rattle.floors.specs.Guided.{Guided}
use Rattle.search_model.specs.declared.records.Record.{Record}
use Rattle.search_model.specs.declared.search.Search.{Search}
use Rattle.search_model.specs.Advance.{expansions, going}
use Rattle.table.specs.declared.node.Node.{Node}
use Rattle.frontier.specs.Frontier.{Prepared}
use Rattle.table.specs.Order.{in_order}
use Rattle.table.specs.Table.{records}
use Rattle.search.specs.declared.states.Report.{Report}
use Rattle.search.specs.declared.turns.Stopped.{Stopped}
use Rattle.search.specs.Reports.{AdvanceReport, advance_report_of}
use Rattle.search.specs.Next.{answer_of, mark_of, with_total}

-- Turns up to a budget, from these records on, end as the definition's do: answer, low mark, expansions, search and records.
pub record TurnsTaken (g : Guided) (s : Search) (budget : ℕ) (rs : List Record) (r : Stopped) (t' : List Node) : Type 0 where
  pub answer : (going g budget s rs).answer ≡ answer_of r.ending
  pub mark : (going g budget s rs).mark ≡ mark_of r.ending
  pub spent : expansions (going g budget s rs) ≡ r.spent
  pub after : (going g budget s rs).search_after ≡ with_total s r.total
  pub left : records t' ≡ (going g budget s rs).records
  pub prepared : Prepared s r.front t'

-- What is reported of stopped turns: the expansions, the total and the low mark.
abbrev pub report_of : Stopped → Report
report_of r = record { expansions = r.spent; total = r.total; low_mark = mark_of r.ending }

-- What stopped turns tell of a search.
abbrev pub stopped_as : Search → Stopped → AdvanceReport
stopped_as s r =
    record { answer = answer_of r.ending; spent = r.spent; total = r.total; mark = mark_of r.ending; search_after = with_total s r.total }

-- Turns up to a budget tell what the definition's outcome does, and leave its records and a table in order.
pub record TurnsOrdered (g : Guided) (s : Search) (budget : ℕ) (t : List Node) (r : Stopped) (t' : List Node) : Type 0 where
  pub said : stopped_as s r ≡ advance_report_of (going g budget s (records t))
  pub left : records t' ≡ (going g budget s (records t)).records
  pub ordered : in_order (going g budget s (records t)).search_after t' ≡ true
