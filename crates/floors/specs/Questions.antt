-- The questions of a call, in order, and the number by which a refusal goes.
use Rattle.std.specs.Prelude.{ℕ, Bool, cond, List, [], ◌∷◌, Some, None, Ok, Err, Option, Result}

-- A question: its number, and whether the answer is yes.
pub record Question : Type 0 where
  pub number : ℕ
  pub yes : Bool

-- The number of the first question that is answered no, if there is one.
abbrev pub first_no : List Question → Option ℕ
first_no [] = None
first_no (q ∷ qs) = cond q.yes (first_no qs) (Some q.number)

-- What a call leaves: the one value where no question was answered no, the other where one was.
abbrev pub unless : {A : Type 0} → Option ℕ → A → A → A
unless None accepted refused = accepted
unless (Some number) accepted refused = refused

-- The number by which an answer refuses, where faults are numbered so.
abbrev pub refusal : {A E : Type 0} → (E → ℕ) → Result A E → Option ℕ
refusal number (Ok x) = None
refusal number (Err fault) = Some (number fault)
