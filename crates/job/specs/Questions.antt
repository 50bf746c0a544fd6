-- The questions of a job to the search, in order.
use Rattle.std.specs.Prelude.{ℕ, List, [], ◌∷◌, length, ◌==◌, nat_le, nat_lt}
use Rattle.floors.specs.Meaning.{Meaning}
use Rattle.floors.specs.Questions.{Question}
use Rattle.search_model.specs.declared.bound.Bound.{Bound}
use Rattle.table.specs.declared.node.Node.{Node}
use Rattle.search.specs.Questions.{bound_valid}

-- 31 the start is a place; 32 the bound is valid; 33 the table has one node for each place; 35 the budget is at most 65,535;
-- 38 the list has room for as many numbers as there are places.
abbrev pub job_questions : Meaning → ℕ → Bound → ℕ → List Node → ℕ → List Question
job_questions m start bound budget t room =
    record { number = 31; yes = nat_lt start m.size }
    ∷ record { number = 32; yes = bound_valid bound }
    ∷ record { number = 33; yes = (length t == m.size) }
    ∷ record { number = 35; yes = nat_le budget 65535 }
    ∷ record { number = 38; yes = nat_le m.size room }
    ∷ []
