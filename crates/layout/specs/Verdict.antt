-- What the questions come to: the number of the first that is answered no, and the lowest record that fails it.
use Rattle.std.specs.Prelude.{ℕ, List, Some, None, Option}
use Rattle.layout.specs.declared.counts.Counts.{Counts}
use Rattle.layout.specs.Layout.{counts}
use Rattle.layout.specs.Lowest.{lowest}
use Rattle.layout.specs.Questions.{broken_length, no_first_place, wrong_tag, too_many, wrong_fixed, wrong_first, wrong_target, wrong_estimate, high_goal, steep}
use Rattle.layout.specs.Records.{whole}

pub data Verdict : Type 0 where
  accepted : Verdict
  refused : (number at_record : ℕ) → Verdict

-- The number and the record of a refusal.
abbrev pub number_of : Verdict → ℕ
number_of accepted = 0
number_of (refused number r) = number

abbrev pub record_of : Verdict → ℕ
record_of accepted = 0
record_of (refused number r) = r

-- A question put: its number, and the record that fails it, if there is one.
abbrev pub asked : ℕ → Option ℕ → Verdict
asked number None = accepted
asked number (Some r) = refused number r

-- The second verdict counts only where the first accepts.
abbrev pub then : Verdict → Verdict → Verdict
then accepted w = w
then (refused number r) w = refused number r

-- Questions 1 to 4: where the records stand.
abbrev pub shape : List ℕ → Verdict
shape bs =
    then (asked 1 (broken_length bs))
    (then (asked 2 (no_first_place bs))
    (then (asked 3 (lowest (wrong_tag bs) (whole bs)))
    (asked 4 (too_many (counts bs)))))

-- Questions 5 to 8: each record by itself.
abbrev pub each_record : List ℕ → Counts → Verdict
each_record bs n =
    then (asked 5 (lowest (wrong_fixed bs n) (whole bs)))
    (then (asked 6 (lowest (wrong_first bs n) n.places))
    (then (asked 7 (lowest (wrong_target bs n) (whole bs)))
    (asked 8 (lowest (wrong_estimate bs) n.places))))

-- Question 9: goals first, then legs; a place's record stands before every leg's.
abbrev pub low_law : List ℕ → Counts → Verdict
low_law bs n =
    then (asked 9 (lowest (high_goal bs) n.places))
    (asked 9 (lowest (steep bs n) (whole bs)))

-- All questions, in order.
abbrev pub verdict : List ℕ → Verdict
verdict bs = then (shape bs) (then (each_record bs (counts bs)) (low_law bs (counts bs)))
