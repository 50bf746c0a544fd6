-- The questions put to shut and unshut, and what the calls leave.
use Rattle.std.specs.Prelude.{ℕ, Bool, not, List, [], ◌∷◌, nat_lt}
use Rattle.floors.specs.declared.shut_fault.ShutFault.{ShutFault}
use Rattle.floors.specs.declared.shut_fault.ShutFault.TheVariants.{NoPlace, AlreadyShut, TooMany, NotShut}
use Rattle.floors.specs.Questions.{Question, first_no, unless}
use Rattle.floors.specs.Shut.{contains, members, with_place, without_place}

abbrev pub shut_number : ShutFault → ℕ
shut_number NoPlace = 21
shut_number AlreadyShut = 22
shut_number TooMany = 23
shut_number NotShut = 24

-- 21 it is a place of the floor; 22 it is not yet shut; 23 fewer than 64 are shut.
abbrev pub shut_questions : (size : ℕ) → List Bool → ℕ → List Question
shut_questions size flags p =
    record { number = 21; yes = nat_lt p size }
    ∷ record { number = 22; yes = not (contains flags p) }
    ∷ record { number = 23; yes = nat_lt (members flags) 64 }
    ∷ []

-- 21 it is a place of the floor; 24 it is shut.
abbrev pub unshut_questions : (size : ℕ) → List Bool → ℕ → List Question
unshut_questions size flags p =
    record { number = 21; yes = nat_lt p size }
    ∷ record { number = 24; yes = contains flags p }
    ∷ []

-- The set afterwards: a refused call changes nothing.
abbrev pub after_shut : (size : ℕ) → List Bool → ℕ → List Bool
after_shut size flags p = unless (first_no (shut_questions size flags p)) (with_place flags p) flags

abbrev pub after_unshut : (size : ℕ) → List Bool → ℕ → List Bool
after_unshut size flags p = unless (first_no (unshut_questions size flags p)) (without_place flags p) flags
