-- What an advance does after a choice.
use Rattle.std.specs.Prelude.{ℕ, ◌+◌, min, cond, Some, None, Option, nat_lt}
use Rattle.floors.specs.Meaning.{Meaning}
use Rattle.search_model.specs.declared.search.Search.{Search}
use Rattle.search_model.specs.Advance.{Answer}
use Rattle.search_model.specs.Advance as answers
use Rattle.search_model.specs.Expansion.{greatest_total}
use Rattle.frontier.specs.declared.choose.Choice.{Choice}
use Rattle.search.specs.declared.next.End.{End}
use Rattle.search.specs.declared.next.End.TheVariants.{Barren, Settled, More}
use Rattle.std.specs.declared.ops.ControlFlow.{ControlFlow}
use Rattle.std.specs.declared.ops.ControlFlow.TheVariants.{Break, Continue}

-- It stops where nothing is open, at a goal, and where the budget is used up; otherwise it goes on and expands the place.
abbrev pub next_of : Meaning → Option Choice → ℕ → ℕ → ControlFlow End ℕ
next_of m None spent budget = Break Barren
next_of m (Some c) spent budget = cond (m.goal c.place) (Break (Settled c)) (cond (nat_lt spent budget) (Continue c.place) (Break (More c)))

-- The answer of an end, and the low mark.
abbrev pub answer_of : End → Answer
answer_of Barren = answers.Barren
answer_of (Settled c) = answers.Settled c.place
answer_of (More c) = answers.More

abbrev pub mark_of : End → Option ℕ
mark_of Barren = None
mark_of (Settled c) = Some c.mark
mark_of (More c) = Some c.mark

-- A total with one more expansion.
abbrev pub one_more : ℕ → ℕ
one_more total = min (total + 1) greatest_total

-- The search with another total.
abbrev pub with_total : Search → ℕ → Search
with_total s total = record { start = s.start; bound = s.bound; size = s.size; total = total }
