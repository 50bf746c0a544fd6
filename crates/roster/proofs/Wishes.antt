-- What the records expect, each of itself: read, kept and written.
use Rattle.std.proofs.Common.{◌≡◌, ℕ, ◌<◌, ◌≤◌, ◌⊎◌, List, length, get_or, set, None, Option, sym, ap, ◌∙◌, inl, inr, ⊎_elim, arith, length-set, get_or-set_other, get_or-set_same}
use Rattle.std.proofs.lemmas.Option.{slice_get-get_or, slice_get_past}
use Rattle.std.proofs.lemmas.Bool.{cases_eq, cases_lt}
use Rattle.queue.proofs.Parts.{some_element}
use Rattle.roster.specs.Check.{expected_in}
use Rattle.roster.specs.Holds.{put}
use Rattle.roster.proofs.Expectations.{put_here, put_other}

module _ {R E : Type 0} (wanted : R → ℕ → Option E) where
  -- past the last record nothing is expected
  pub expected_past : (xs : List R) (h : ℕ) → length xs ≤ h → expected_in wanted xs h ≡ None
  expected_past xs h past = rw (slice_get_past xs h past, expected_in)

  -- a record says what it expects
  pub expected_at : (xs : List R) (h : ℕ) (r : R) → h < length xs → expected_in wanted xs h ≡ wanted (get_or xs h r) h
  expected_at xs h r l = rw (slice_get-get_or xs h r l, expected_in)

  pub expected_read : (xs : List R) (h : ℕ) (r : R) → h < length xs → r ≡ get_or xs h r → expected_in wanted xs h ≡ wanted r h
  expected_read xs h r l is = expected_at xs h r l ∙ ap (λ (z : R). wanted z h) (sym is)

  -- records that want the same expect the same
  pub expected_kept : (xs ys : List R) → length ys ≡ length xs → ((r : R) (h : ℕ) → h < length xs → wanted (get_or ys h r) h ≡ wanted (get_or xs h r) h)
      → (h : ℕ) → expected_in wanted ys h ≡ expected_in wanted xs h
  expected_kept xs ys long same h = ⊎_elim
      (λ l.
      let r = some_element xs (omega arith) in
      let l' : h < length ys = omega arith in
      expected_at ys h r l' ∙ same r h l ∙ sym (expected_at xs h r l))
      (λ past. let past' : length ys ≤ h = omega arith in expected_past ys h past' ∙ sym (expected_past xs h past))
      (cases_lt h (length xs))

  -- a write of one record changes what that home expects, and nothing else
  pub expected_set : (xs : List R) (a : ℕ) (r : R) → a < length xs → (h : ℕ) → expected_in wanted (set xs a r) h ≡ put (expected_in wanted xs) a (wanted r a) h
  expected_set xs a r l h = ⊎_elim
      (λ (e : h ≡ a).
      let l' : a < length (set xs a r) = omega (arith, length-set xs a r) in
      ap (expected_in wanted (set xs a r)) e
      ∙ expected_at (set xs a r) a r l'
      ∙ ap (λ (z : R). wanted z a) (get_or-set_same xs a r r l)
      ∙ sym (put_here (expected_in wanted xs) a (wanted r a) h e))
      (λ ne. other ne (cases_lt h (length xs)) ∙ sym (put_other (expected_in wanted xs) a (wanted r a) h ne))
      (cases_eq h a)
    where
      other : (h ≡ a → ⊥) → (h < length xs) ⊎ (length xs ≤ h) → expected_in wanted (set xs a r) h ≡ expected_in wanted xs h
      other ne (inl lh) =
          let l' : h < length (set xs a r) = omega (arith, length-set xs a r) in
          expected_at (set xs a r) h r l' ∙ ap (λ (z : R). wanted z h) (get_or-set_other xs a h r r ne) ∙ sym (expected_at xs h r lh)
      other ne (inr past) =
          let past' : length (set xs a r) ≤ h = omega (arith, length-set xs a r) in
          expected_past (set xs a r) h past' ∙ sym (expected_past xs h past)
