-- The line that the program writes for a layout.
use Rattle.std.specs.Prelude.{ℕ, cond, List, ◌++◌, length, codes, decimal, nat_lt}
use Rattle.layout.specs.Layout.{counts}
use Rattle.layout.specs.Verdict.{Verdict, accepted, refused, verdict}
use Rattle.route.specs.declared.answer.Outcome.{Outcome}
use Rattle.route.specs.declared.answer.Outcome.TheVariants.{Refused, Accepted}

abbrev pub refusal_line : (number record_number : ℕ) → List ℕ
refusal_line number at = codes "layout refused " ++ (decimal number ++ (codes " at " ++ decimal at))

abbrev pub accepted_line : (places legs : ℕ) → List ℕ
accepted_line places legs = codes "layout accepted places " ++ (decimal places ++ (codes " legs " ++ decimal legs))

-- What is written of an outcome.
abbrev pub outcome_line : Outcome → List ℕ
outcome_line (Refused number at) = refusal_line number at
outcome_line (Accepted places legs) = accepted_line places legs

abbrev pub verdict_line : (places legs : ℕ) → Verdict → List ℕ
verdict_line places legs accepted = accepted_line places legs
verdict_line places legs (refused number at) = refusal_line number at

-- A layout of more than 16,384 bytes is refused 10 at 1024; any other by the questions of the intake.
abbrev pub line : List ℕ → List ℕ
line bs = cond (nat_lt 16384 (length bs)) (refusal_line 10 1024) (verdict_line (counts bs).size (counts bs).legs (verdict bs))
