-- What the records expect, where one record changes or where records change only in what no expectation reads.
use Rattle.std.proofs.Common.{◌≡◌, ℕ, zero, suc, ◌<◌, Bool, true, false, cond, List, [], ◌∷◌, map, length, set, is_some, Some, None, Option, sym, refl, ap, ◌∙◌, arith}
use Rattle.std.specs.List.{slice_get}
use Rattle.roster.specs.Check.{expected_in}
use Rattle.roster.specs.Holds.{put}
use Rattle.roster.proofs.Wishes as wishes

module _ {R E : Type 0} (wanted : R → ℕ → Option E) where
  -- one record changed
  pub expected_set : (xs : List R) (a : ℕ) (r : R) → a < length xs → (k : ℕ) → put (expected_in wanted xs) a (wanted r a) k ≡ expected_in wanted (set xs a r) k
  expected_set xs a r l k = sym (wishes.expected_set wanted xs a r l k)

  -- expectations that read a part of the record only
  module _ {X : Type 0} (part : R → X) (whole : X → R) (reads : (r : R) (p : ℕ) → wanted r p ≡ wanted (whole (part r)) p) where
    by_part : (xs : List R) (k p : ℕ) → ◌≡◌ {A = Option E} (elim (slice_get xs k) [ Some r ↦ wanted r p | None ↦ None ]) (elim (slice_get (map part xs) k) [ Some x ↦ wanted (whole x) p | None ↦ None ])
    by_part [] k p = refl
    by_part (x ∷ xs) zero p = reads x p
    by_part (x ∷ xs) (suc k) p = by_part xs k p

    -- are the same where every record keeps the part
    pub expected_kept : (xs ys : List R) → map part ys ≡ map part xs → (k : ℕ) → expected_in wanted ys k ≡ expected_in wanted xs k
    expected_kept xs ys same k =
        by_part ys k k ∙ ap (λ (zs : List X). expected_in (λ x. wanted (whole x)) zs k) same ∙ sym (by_part xs k k)

-- An entry that is wanted on a condition.
module _ {E : Type 0} where
  pub some_if : (b : Bool) (x : E) → is_some (cond b (Some x) None) ≡ b
  some_if true x = refl
  some_if false x = refl

  pub if_some : (b : Bool) (x e : E) → cond b (Some x) None ≡ Some e → (b ≡ true) × (x ≡ e)
  if_some true x e is = (refl, cc)
  if_some false x e is = let z : ◌≡◌ {A = ℕ} 0 1 = cc in absurd (omega arith)
