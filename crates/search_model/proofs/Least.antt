-- What the argmin over places finds.
use Rattle.std.proofs.Common.{◌≡◌, ℕ, zero, suc, ◌<◌, ◌≤◌, Bool, true, false, ◌&&◌, ◌⊎◌, Some, None, Option, refl, ap, ◌∙◌, subst, ⊎_elim, arith}
use Rattle.std.specs.Cmp.{IsStrictWeakOrder}
use Rattle.std.proofs.lemmas.Bool.{both_ways, and_parts, and_cases, cases_lt, cases_Bool, cases_order}
use Rattle.search_model.specs.Choice.{better, least}

-- p is the first below n that passes, and the lowest of its ties.
pub record Least (test : ℕ → Bool) (before : ℕ → ℕ → Bool) (n p : ℕ) : Type 0 where
  pub below : p < n
  pub passes : test p ≡ true
  pub first : (q : ℕ) → q < n → test q ≡ true → before q p ≡ false
  pub lowest : (q : ℕ) → q < p → test q ≡ true → before p q ≡ true

-- What an answer of the argmin says.
abbrev pub Says : (ℕ → Bool) → (ℕ → ℕ → Bool) → ℕ → Option ℕ → Type 0
Says test before n None = (q : ℕ) → q < n → test q ≡ true → ⊥
Says test before n (Some p) = Least test before n p

-- Below n + 1 is below n, or n itself.
below_suc : {P : ℕ → Type 0} (n : ℕ) → ((q : ℕ) → q < n → P q) → P n → (q : ℕ) → q < suc n → P q
below_suc {P} n h here q l = ⊎_elim (λ k. h q k) (λ k. subst P (same k) here) (cases_lt q n)
  where
    same : n ≤ q → n ≡ q
    same k = omega arith

module _ (test : ℕ → Bool) (before : ℕ → ℕ → Bool) (o : IsStrictWeakOrder before) where
  not_before_itself : (n : ℕ) → before n n ≡ false
  not_before_itself n = ⊎_elim (λ x. o.one_way n n x) (λ x. x) (cases_Bool (before n n))

  keeps : (n p : ℕ) → Least test before n p → (test n && before n p) ≡ false → Least test before (suc n) p
  keeps n p h e =
      record {
        below = omega (arith, h.below);
        passes = h.passes;
        first = below_suc {P = λ q. test q ≡ true → before q p ≡ false} n h.first (λ t. ⊎_elim (λ x. absurd (both_ways (test n) x t)) (λ x. x) (and_cases (test n) (before n p) e));
        lowest = h.lowest;
      }

  takes_over : (n p : ℕ) → Least test before n p → (test n && before n p) ≡ true → Least test before (suc n) n
  takes_over n p h e =
      record {
        below = omega arith;
        passes = (and_parts (test n) (before n p) e).0;
        first = below_suc {P = λ q. test q ≡ true → before q n ≡ false} n (λ q l t. o.one_way n q (beaten q l t)) (λ _. not_before_itself n);
        lowest = beaten;
      }
    where
      beaten : (q : ℕ) → q < n → test q ≡ true → before n q ≡ true
      beaten q l t =
          ⊎_elim
          (λ x. x)
          (λ x. absurd (both_ways (before n p) (o.chain n q p x (h.first q l t)) (and_parts (test n) (before n p) e).1))
          (cases_Bool (before n q))

  step : (n : ℕ) (x : Option ℕ) → Says test before n x → Says test before (suc n) (better test before n x)
  step n None h = by (test n) refl
    where
      by : (b : Bool) → test n ≡ b → Says test before (suc n) (elim b [ true ↦ Some n | false ↦ None ])
      by true e =
          record {
            below = omega arith;
            passes = e;
            first = below_suc {P = λ q. test q ≡ true → before q n ≡ false} n (λ q l t. absurd (h q l t)) (λ _. not_before_itself n);
            lowest = λ q l t. absurd (h q l t);
          }
      by false e = below_suc {P = λ q. test q ≡ true → ⊥} n h (λ t. both_ways (test n) e t)
  step n (Some p) h = by (test n && before n p) refl
    where
      by : (b : Bool) → (test n && before n p) ≡ b → Says test before (suc n) (elim b [ true ↦ Some n | false ↦ Some p ])
      by true e = takes_over n p h e
      by false e = keeps n p h e

  pub least_says : (n : ℕ) → Says test before n (least test before n)
  least_says zero = λ q l t. omega arith
  least_says (suc n) = step n (least test before n) (least_says n)

  least_unique : (n p q : ℕ) → Least test before n p → Least test before n q → p ≡ q
  least_unique n p q h k =
      ⊎_elim
      (λ e. e)
      (λ x.
      ⊎_elim
      (λ l. absurd (both_ways (before q p) (h.first q k.below k.passes) (k.lowest p l h.passes)))
      (λ l. absurd (both_ways (before p q) (k.first p h.below h.passes) (h.lowest q l k.passes)))
      x)
      (cases_order p q)

  -- The place that every other one that passes comes after, or ties with at a higher number.
  pub least_is :
      (n p : ℕ)
      → p < n
      → test p ≡ true
      → ((q : ℕ) → q < n → test q ≡ true → (before p q ≡ true) ⊎ ((before q p ≡ false) × (p ≤ q)))
      → least test before n ≡ Some p
  least_is n p l t h = by (least test before n) refl (least_says n)
    where
      mine : Least test before n p
      mine =
          record {
            below = l;
            passes = t;
            first = λ q b u. ⊎_elim (λ x. o.one_way p q x) (λ x. x.0) (h q b u);
            lowest = λ q b u. ⊎_elim (λ x. x) (λ x. absurd (omega arith)) (h q (omega arith) u);
          }

      by : (x : Option ℕ) → least test before n ≡ x → Says test before n x → least test before n ≡ Some p
      by None e s = absurd (s p l t)
      by (Some q) e s = e ∙ ap Some (least_unique n q p s mine)

  pub least_none : (n : ℕ) → ((q : ℕ) → q < n → test q ≡ true → ⊥) → least test before n ≡ None
  least_none n h = by (least test before n) refl (least_says n)
    where
      by : (x : Option ℕ) → least test before n ≡ x → Says test before n x → least test before n ≡ None
      by None e s = e
      by (Some q) e s = absurd (h q s.below s.passes)

  pub least_found : (n p : ℕ) → least test before n ≡ Some p → Least test before n p
  least_found n p e = rw e at (least_says n)

  pub least_missing : (n : ℕ) → least test before n ≡ None → (q : ℕ) → q < n → test q ≡ true → ⊥
  least_missing n e = rw e at (least_says n)
