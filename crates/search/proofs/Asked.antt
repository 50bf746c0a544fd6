-- Questions that are all answered yes.
use Rattle.std.proofs.Common.{◌≡◌, ℕ, Bool, true, false, cond, List, [], ◌∷◌, Some, None, Option, refl, arith}
use Rattle.floors.specs.Questions.{Question, first_no}

abbrev pub AllYes : List Question → Type 0
AllYes [] = Unit {0}
AllYes (q ∷ qs) = (q.yes ≡ true) × AllYes qs

passed : (yes : Bool) (number : ℕ) (later : Option ℕ) → cond yes later (Some number) ≡ None → (yes ≡ true) × (later ≡ None)
passed true number later e = (refl, e)
passed false number later e = let z : ◌≡◌ {A = ℕ} 0 1 = cc in absurd (omega arith)

-- Where none is answered no, each is answered yes.
pub all_yes : (qs : List Question) → first_no qs ≡ None → AllYes qs
all_yes [] e = tt
all_yes (q ∷ qs) e =
    let (first, later) = passed q.yes q.number (first_no qs) e in
    (first, all_yes qs later)
