-- Expectations with one home changed.
use Rattle.std.proofs.Common.{◌≡◌, ℕ, cond, eqb, ◌≢◌, ◌⊎◌, Some, None, Option, ap, ◌∙◌, inl, inr, ⊎_elim, arith}
use Rattle.std.proofs.lemmas.Bool.{cases_eq, cond-true, cond-false, eq-eqb, ne_eqb}
use Rattle.roster.specs.Holds.{put}

module _ {E : Type 0} where
  pub none_some : (o : Option E) (e : E) → o ≡ None → o ≡ Some e → ⊥
  none_some o e p q = let z : ◌≡◌ {A = ℕ} 0 1 = cc in omega arith

  pub some_same : (o : Option E) (e e' : E) → o ≡ Some e → o ≡ Some e' → e ≡ e'
  some_same o e e' p q = cc

  module _ (x : ℕ → Option E) (h : ℕ) (o : Option E) where
    -- at the home itself
    pub put_here : (k : ℕ) → k ≡ h → put x h o k ≡ o
    put_here k e = cond-true (eqb k h) o (x k) (eq-eqb k h e)

    -- at every other home
    pub put_other : (k : ℕ) → k ≢ h → put x h o k ≡ x k
    put_other k ne = cond-false (eqb k h) o (x k) (ne_eqb k h ne)

    -- what is expected after is the new entry of the home, or was expected of another home
    pub put_cases : (k : ℕ) → ((k ≡ h) × (put x h o k ≡ o)) ⊎ ((k ≢ h) × (put x h o k ≡ x k))
    put_cases k = ⊎_elim (λ e. inl (e, put_here k e)) (λ ne. inr (ne, put_other k ne)) (cases_eq k h)

  -- the same change of expectations that agree
  pub put_same : (x y : ℕ → Option E) (h : ℕ) (o o' : Option E) → ((k : ℕ) → x k ≡ y k) → o ≡ o' → (k : ℕ) → put x h o k ≡ put y h o' k
  put_same x y h o o' same e k = ap (cond (eqb k h) o) (same k) ∙ ap (λ (z : Option E). cond (eqb k h) z (y k)) e
