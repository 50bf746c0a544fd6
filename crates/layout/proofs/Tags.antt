-- Question 3 asked the short way: from the first record that is no place record on, every record is a leg record.
use Rattle.std.proofs.Common.{◌≡◌, ℕ, zero, suc, ◌<◌, ◌≤◌, Bool, true, false, not, ◌&&◌, ◌||◌, eqb, ltb, List, Some, None, Option, unwrap_or, sym, refl, ap, ◌∙◌, subst, ⊎_elim, arith}
use Rattle.std.proofs.lemmas.Bool.{cases_eq, cases_lt, le-leb, lt-leb, eqb-true, ne_eqb, not-true, not-false, or_left, or_right, or_from, false≢true, both_ways, cond-false, le-ltb}
use Rattle.layout.specs.Layout.{no_place, places, place_tag, leg_tag}
use Rattle.layout.specs.Lowest.{lowest}
use Rattle.layout.specs.Questions.{wrong_tag, leg_before, no_leg_behind}
use Rattle.layout.specs.declared.record.RawRecord.{RawRecord}
use Rattle.layout.specs.Records.{whole, part_at, zeros, record_at}
use Rattle.layout.proofs.Lowests.{lowest_none, lowest_some, lowest_same}

-- the lowest failing number, or the end, divides what passes from the first that fails
pub first_failing : (fails : ℕ → Bool) (n : ℕ) (o : Option ℕ) → lowest fails n ≡ o
    → (unwrap_or o n ≤ n) × ((i : ℕ) → i < unwrap_or o n → fails i ≡ false) × (unwrap_or o n < n → fails (unwrap_or o n) ≡ true)
first_failing fails n None e = (omega arith, lowest_none fails n e, λ h. absurd (omega arith))
first_failing fails n (Some r) e =
    let s = lowest_some fails n r e in
    (omega (arith, s.0), lowest_none fails r s.2, λ h. s.1)

-- the test by what byte 0 says: a place, a leg, and whether a leg stands before
unmarked : (place leg : Bool) → place ≡ false → (not (place || leg) || (place && false)) ≡ not leg
unmarked true leg e = absurd (false≢true (sym e))
unmarked false true e = refl
unmarked false false e = refl

marked : (place leg before : Bool) → place ≡ false → (not (place || leg) || (place && before)) ≡ false → leg ≡ true
marked true leg before e f = absurd (false≢true (sym e))
marked false true before e f = refl
marked false false before e f = absurd (false≢true (sym f))

behind : (place leg : Bool) → (place ≡ true → leg ≡ false) → (not (place || leg) || (place && true)) ≡ not leg
behind true leg apart = rw (apart refl)
behind false true apart = refl
behind false false apart = refl

module _ (bs : List ℕ) where
  pub places_within : places bs ≤ whole bs
  places_within = (first_failing (no_place bs) (whole bs) (lowest (no_place bs) (whole bs)) refl).0

  is_place : (i : ℕ) → i < places bs → eqb (record_at bs i).tag place_tag ≡ true
  is_place i h = not-false _ ((first_failing (no_place bs) (whole bs) (lowest (no_place bs) (whole bs)) refl).1 i h)

  is_no_place : places bs < whole bs → eqb (record_at bs (places bs)).tag place_tag ≡ false
  is_no_place h = not-true _ ((first_failing (no_place bs) (whole bs) (lowest (no_place bs) (whole bs)) refl).2 h)

  -- a layout whose record 0 is a place record has places
  pub first_place : eqb (record_at bs 0).tag place_tag ≡ true → 1 ≤ places bs
  unfolding record_at
  first_place e = ⊎_elim
      (λ (none : places bs < 1).
      let empty : places bs ≡ 0 = omega arith in
      ⊎_elim
      (λ (some : places bs < whole bs). absurd (both_ways _ (subst (λ i. eqb (record_at bs i).tag place_tag ≡ false) empty (is_no_place some)) e))
      (λ (all : whole bs ≤ places bs). absurd (false≢true (sym (ap (λ (x : RawRecord). eqb x.tag place_tag) (cond-false (ltb 0 (whole bs)) (part_at bs 0) zeros (le-ltb 0 (whole bs) (omega arith)))) ∙ e)))
      (cases_lt (places bs) (whole bs)))
      (λ some. some)
      (cases_lt (places bs) 1)

  place_no_leg : (i : ℕ) → eqb (record_at bs i).tag place_tag ≡ true → eqb (record_at bs i).tag leg_tag ≡ false
  place_no_leg i e = ne_eqb _ _ (λ same. let at : (record_at bs i).tag ≡ place_tag = eqb-true _ _ e in omega arith)

  none_before : (i : ℕ) → i ≤ places bs → leg_before bs i ≡ false
  none_before zero h = refl
  none_before (suc i) h = or_from _ _ (none_before i (omega arith)) (place_no_leg i (is_place i (omega arith)))

  one_before : (j i : ℕ) → j < i → eqb (record_at bs j).tag leg_tag ≡ true → leg_before bs i ≡ true
  one_before j zero h e = absurd (omega arith)
  one_before j (suc i) h e = ⊎_elim
      (λ same. or_right _ _ (subst (λ k. eqb (record_at bs k).tag leg_tag ≡ true) same e))
      (λ other. or_left _ _ (one_before j i (omega arith) e))
      (cases_eq j i)

  agree : (i : ℕ) → i < whole bs → lowest (wrong_tag bs) i ≡ None → wrong_tag bs i ≡ no_leg_behind bs (places bs) i
  agree i within before = ⊎_elim
      (λ (low : i < places bs). rw (is_place i low, none_before i (omega arith), lt-leb (places bs) i low))
      (λ (high : places bs ≤ i). ⊎_elim
      (λ (same : i ≡ places bs).
      rw (none_before i (omega arith), le-leb (places bs) i high)
      (unmarked _ _ (subst (λ k. eqb (record_at bs k).tag place_tag ≡ false) (sym same) (is_no_place (omega arith)))))
      (λ other.
      let passed : wrong_tag bs (places bs) ≡ false = lowest_none (wrong_tag bs) i before (places bs) (omega arith) in
      let leg : eqb (record_at bs (places bs)).tag leg_tag ≡ true = marked _ _ _ (is_no_place (omega arith)) passed in
      rw (one_before (places bs) i (omega arith) leg, le-leb (places bs) i high) (behind _ _ (place_no_leg i)))
      (cases_eq i (places bs)))
      (cases_lt i (places bs))

  pub short_tags : (first : ℕ) → first ≡ places bs → lowest (no_leg_behind bs first) (whole bs) ≡ lowest (wrong_tag bs) (whole bs)
  short_tags first e =
      ap (λ p. lowest (no_leg_behind bs p) (whole bs)) e ∙ sym (lowest_same (wrong_tag bs) (no_leg_behind bs (places bs)) (whole bs) agree)
