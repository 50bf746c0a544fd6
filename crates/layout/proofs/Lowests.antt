-- Laws of the lowest number that fails a test.
use Rattle.std.proofs.Common.{◌≡◌, ℕ, zero, suc, ◌<◌, ◌≤◌, MatchOption, Bool, true, false, cond, ◌⊎◌, Some, None, Option, sym, refl, ◌∙◌, subst, inl, inr, ⊎_elim, arith}
use Rattle.std.proofs.lemmas.Bool.{cases_eq}
use Rattle.layout.specs.Lowest.{lowest, IsLowest}

-- What a step of `lowest` gives, by what came before and by the test.
step : Option ℕ → Bool → ℕ → Option ℕ
step o b n = elim o [ Some r ↦ Some r | None ↦ cond b (Some n) None ]

step_none : (o : Option ℕ) (b : Bool) (n : ℕ) → step o b n ≡ None → (o ≡ None) × (b ≡ false)
unfolding step
step_none None true n e = let z : ◌≡◌ {A = ℕ} 0 1 = cc in absurd (omega arith)
step_none None false n e = (refl, refl)
step_none (Some r) b n e = let z : ◌≡◌ {A = ℕ} 0 1 = cc in absurd (omega arith)

module _ (fails : ℕ → Bool) where
  lowest_suc : (n : ℕ) → lowest fails (suc n) ≡ step (lowest fails n) (fails n) n
  unfolding step
  lowest_suc n = refl

  -- the lowest stays the lowest, however many follow
  pub lowest_found : (i n : ℕ) → lowest fails i ≡ None → fails i ≡ true → i < n → lowest fails n ≡ Some i
  unfolding step
  lowest_found i zero e f h = absurd (omega arith)
  lowest_found i (suc n) e f h = ⊎_elim
      (λ (same : i ≡ n). rw (lowest_suc n, ← same, e, f))
      (λ other. rw (lowest_suc n, lowest_found i n e f (omega arith)))
      (cases_eq i n)

  -- where none fails, each passes
  pub lowest_none : (n : ℕ) → lowest fails n ≡ None → (i : ℕ) → i < n → fails i ≡ false
  lowest_none zero e i h = absurd (omega arith)
  lowest_none (suc n) e i h =
      let both : (lowest fails n ≡ None) × (fails n ≡ false) = step_none (lowest fails n) (fails n) n (sym (lowest_suc n) ∙ e) in
      ⊎_elim (λ (same : i ≡ n). rw (same, both.1)) (λ other. lowest_none n both.0 i (omega arith)) (cases_eq i n)

  -- where each passes, none fails
  pub lowest_all : (n : ℕ) → ((i : ℕ) → i < n → fails i ≡ false) → lowest fails n ≡ None
  unfolding step
  lowest_all zero pass = refl
  lowest_all (suc n) pass = rw (lowest_suc n, lowest_all n (λ i h. pass i (omega arith)), pass n (omega arith))

-- Two tests have the same lowest failure if they agree wherever all before pass the first.
pub lowest_same : (f g : ℕ → Bool) (n : ℕ) → ((i : ℕ) → i < n → lowest f i ≡ None → f i ≡ g i) → lowest f n ≡ lowest g n
unfolding step
lowest_same f g zero agree = refl
lowest_same f g (suc n) agree = go (lowest_same f g n (λ i h. agree i (omega arith))) (lowest f n) refl
  where
    go : lowest f n ≡ lowest g n → (o : Option ℕ) → lowest f n ≡ o → lowest f (suc n) ≡ lowest g (suc n)
    go before (Some r) e = rw (lowest_suc f n, lowest_suc g n, ← before, e)
    go before None e = rw (lowest_suc f n, lowest_suc g n, ← before, e, agree n (omega arith) e)

step_some : (o : Option ℕ) (b : Bool) (n r : ℕ) → step o b n ≡ Some r → (o ≡ Some r) ⊎ ((o ≡ None) × (b ≡ true) × (n ≡ r))
unfolding step
step_some None true n r e = inr (refl, refl, cc)
step_some None false n r e = let z : ◌≡◌ {A = ℕ} 0 1 = cc in absurd (omega arith)
step_some (Some k) b n r e = inl e

-- The lowest failure fails, and all before it pass.
pub lowest_some : (fails : ℕ → Bool) (n r : ℕ) → lowest fails n ≡ Some r → (r < n) × (fails r ≡ true) × (lowest fails r ≡ None)
lowest_some fails zero r e = let z : ◌≡◌ {A = ℕ} 0 1 = cc in absurd (omega arith)
lowest_some fails (suc n) r e = ⊎_elim
    (λ earlier. let s = lowest_some fails n r earlier in (omega (arith, s.0), s.1, s.2))
    (λ now. (omega (arith, now.2), subst (λ k. fails k ≡ true) now.2 now.1, subst (λ k. lowest fails k ≡ None) now.2 now.0))
    (step_some (lowest fails n) (fails n) n r (sym (lowest_suc fails n) ∙ e))

-- What the lowest failure is, there is only one of.
pub is_lowest : (fails : ℕ → Bool) (n : ℕ) (o : Option ℕ) → IsLowest fails n o → o ≡ lowest fails n
is_lowest fails n None pass = sym (lowest_all fails n pass)
is_lowest fails n (Some i) (within, failing, pass) = sym (lowest_found fails i n (lowest_all fails i pass) failing within)

-- What a search over a range finds is the lowest.
pub first_is_lowest : (fails : ℕ → Bool) (n : ℕ) (r : Option ℕ)
    → MatchOption r ((k : ℕ) → 0 ≤ k → k < n → fails k ≡ false) (λ i. (0 ≤ i) × (i < n) × (fails i ≡ true) × ((k : ℕ) → 0 ≤ k → k < i → fails k ≡ false))
    → r ≡ lowest fails n
first_is_lowest fails n None all = is_lowest fails n None (λ k h. all k (omega arith) h)
first_is_lowest fails n (Some i) found = is_lowest fails n (Some i) (found.1, found.2, λ k h. found.3 k (omega arith) h)
