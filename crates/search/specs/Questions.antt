-- The questions of each call of a search, in order.
use Rattle.std.specs.Prelude.{ℕ, Bool, ◌&&◌, List, [], ◌∷◌, length, is_some, ◌==◌, nat_le, nat_lt}
use Rattle.floors.specs.Meaning.{Meaning}
use Rattle.floors.specs.Questions.{Question}
use Rattle.search_model.specs.declared.bound.Bound.{Bound}
use Rattle.search_model.specs.declared.search.Search.{Search}
use Rattle.search_model.specs.Read.{read_route}
use Rattle.table.specs.declared.node.Node.{Node}
use Rattle.table.specs.Order.{in_order}
use Rattle.table.specs.Table.{records}

-- The bound is valid: 1 ≤ b ≤ a ≤ 10,000.
abbrev pub bound_valid : Bound → Bool
bound_valid bound = nat_le 1 bound.b && (nat_le bound.b bound.a && nat_le bound.a 10000)

-- 31 the start is a place; 32 the bound is valid; 33 the table has one node for each place.
abbrev pub begin_questions : Meaning → ℕ → Bound → List Node → List Question
begin_questions m start bound t =
    record { number = 31; yes = nat_lt start m.size }
    ∷ record { number = 32; yes = bound_valid bound }
    ∷ record { number = 33; yes = (length t == m.size) }
    ∷ []

-- 36 the table is in order.
abbrev pub order_question : Search → List Node → List Question
order_question s t = record { number = 36; yes = in_order s t } ∷ []

-- 34 the floor has as many places as the search; 33.
abbrev pub shape_questions : Meaning → Search → List Node → List Question
shape_questions m s t =
    record { number = 34; yes = (m.size == s.size) }
    ∷ record { number = 33; yes = (length t == s.size) }
    ∷ []

-- 34 the floor has as many places as the search; 33; 35 the budget is at most 65,535; 36 the table is in order.
abbrev pub advance_questions : Meaning → Search → ℕ → List Node → List Question
advance_questions m s budget t =
    record { number = 34; yes = (m.size == s.size) }
    ∷ record { number = 33; yes = (length t == s.size) }
    ∷ record { number = 35; yes = nat_le budget 65535 }
    ∷ record { number = 36; yes = in_order s t }
    ∷ []

-- 34; 33; 36.
abbrev pub end_questions : Meaning → Search → List Node → List Question
end_questions m s t =
    record { number = 34; yes = (m.size == s.size) }
    ∷ record { number = 33; yes = (length t == s.size) }
    ∷ record { number = 36; yes = in_order s t }
    ∷ []

-- 32; 33; 36 by the old bound.
abbrev pub rebound_questions : Search → Bound → List Node → List Question
rebound_questions s bound t =
    record { number = 32; yes = bound_valid bound }
    ∷ record { number = 33; yes = (length t == s.size) }
    ∷ record { number = 36; yes = in_order s t }
    ∷ []

-- 34; 33; 37 parents lead from the goal to the start; 38 the list has room for as many numbers as there are places.
abbrev pub read_questions : Meaning → Search → ℕ → List Node → ℕ → List Question
read_questions m s goal t room =
    record { number = 34; yes = (m.size == s.size) }
    ∷ record { number = 33; yes = (length t == s.size) }
    ∷ record { number = 37; yes = is_some (read_route m s (records t) goal) }
    ∷ record { number = 38; yes = nat_le s.size room }
    ∷ []
