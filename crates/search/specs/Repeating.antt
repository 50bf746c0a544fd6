-- Advances repeated after more.
use Rattle.std.specs.Prelude.{◌≡◌, ℕ, List, ◌++◌, ◌≢◌}
use Rattle.floors.specs.Guided.{Guided}
use Rattle.search_model.specs.declared.records.Record.{Record}
use Rattle.search_model.specs.declared.search.Search.{Search}
use Rattle.search_model.specs.Advance.{More, Outcome, going}
use Rattle.search.specs.Reports.{end_budget}

-- Two advances as one: the expansions of both, and the answer of the second.
abbrev pub joined : Outcome → Outcome → Outcome
joined first second =
    record {
      answer = second.answer;
      places = first.places ++ second.places;
      mark = second.mark;
      search_after = second.search_after;
      records = second.records;
    }

-- Advances with any budgets, each after one that answered more, up to one that does not: what they come to together.
pub data Repeated (g : Guided) : Search → List Record → Outcome → Type 0 where
  once : {s : Search} {rs : List Record} {o : Outcome} (budget : ℕ) → o ≡ going g budget s rs → (o.answer ≢ More) → Repeated g s rs o
  again :
      {s : Search} {rs : List Record} {o : Outcome} (budget : ℕ) (first rest : Outcome)
      → first ≡ going g budget s rs
      → first.answer ≡ More
      → Repeated g first.search_after first.records rest
      → o ≡ joined first rest
      → Repeated g s rs o

-- However advances are repeated, they come to what the one advance to the end does.
abbrev pub SameAsRepeated : Guided → Search → List Record → Type 0
SameAsRepeated g s rs = (o : Outcome) → Repeated g s rs o → o ≡ going g end_budget s rs
