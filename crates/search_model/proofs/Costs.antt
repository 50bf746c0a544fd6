-- The greatest cost and the greatest label.
use Rattle.std.proofs.Common.{◌≡◌, ℕ, zero, suc, ◌+◌, ◌-◌, ◌*◌, ◌<◌, ◌≤◌, max, Some, None, Option, sym, refl, ap, ◌∙◌, ⊎_elim, mul-le-mul, mul-suc, arith}
use Rattle.std.proofs.lemmas.Bool.{cases_lt}
use Rattle.floors.specs.declared.leg.Leg.{Leg}
use Rattle.floors.specs.Meaning.{Meaning}
use Rattle.floors.specs.Sound.{Sound, limit}
use Rattle.search_model.specs.Expansion.{greatest_total}
use Rattle.search_model.specs.Costs.{most, leg_cost, greatest_cost, greatest_label, most_expansions}

most_above : (value : ℕ → ℕ) (n j : ℕ) → j < n → value j ≤ most value n
most_above value zero j h = absurd (omega arith)
most_above value (suc n) j h = ⊎_elim (λ l. earlier (most_above value n j l)) (λ l. here (same l)) (cases_lt j n)
  where
    same : n ≤ j → n ≡ j
    same l = omega arith

    earlier : value j ≤ most value n → value j ≤ max (most value n) (value n)
    earlier k = omega arith

    here : n ≡ j → value j ≤ max (most value n) (value n)
    here e = let v : value n ≡ value j = ap value e in omega arith

most_below : (value : ℕ → ℕ) (b n : ℕ) → ((j : ℕ) → value j ≤ b) → most value n ≤ b
most_below value b zero h = omega arith
most_below value b (suc n) h = omega (arith, h n, most_below value b n h)

module _ (m : Meaning) (sound : Sound m) where
  -- A usable leg is one of the place's legs, and the place is on the floor.
  pub leg_number : (p k : ℕ) (l : Leg) → m.leg p k ≡ Some l → k < m.count p
  leg_number p k l e = ⊎_elim (λ h. h) (λ h. never (sound.outside.past_list p k h)) (cases_lt k (m.count p))
    where
      never : m.leg p k ≡ None → k < m.count p
      never n = let z : ◌≡◌ {A = ℕ} 0 1 = cc in absurd (omega arith)

  pub leg_place : (p k : ℕ) (l : Leg) → m.leg p k ≡ Some l → p < m.size
  leg_place p k l e = ⊎_elim (λ h. h) (λ h. absurd (omega (arith, leg_number p k l e, sound.outside.no_legs p h))) (cases_lt p m.size)

  -- No usable leg costs more than the greatest cost.
  pub cost_below : (p k : ℕ) (l : Leg) → m.leg p k ≡ Some l → l.cost ≤ greatest_cost m
  cost_below p k l e =
      let one : leg_cost (m.leg p k) ≤ most (λ k. leg_cost (m.leg p k)) (m.count p) =
      most_above (λ k. leg_cost (m.leg p k)) (m.count p) k (leg_number p k l e) in
      let all : most (λ k. leg_cost (m.leg p k)) (m.count p) ≤ greatest_cost m =
      most_above (λ p. most (λ k. leg_cost (m.leg p k)) (m.count p)) m.size p (leg_place p k l e) in
      let is : leg_cost (m.leg p k) ≡ l.cost = ap leg_cost e in
      omega arith

  greatest_cost_below : greatest_cost m ≤ 65535
  greatest_cost_below =
      most_below (λ p. most (λ k. leg_cost (m.leg p k)) (m.count p)) 65535 m.size (λ p. most_below (λ k. leg_cost (m.leg p k)) 65535 (m.count p) (λ k. by p k (m.leg p k) refl))
    where
      by : (p k : ℕ) (x : Option Leg) → m.leg p k ≡ x → leg_cost x ≤ 65535
      by p k None e = omega arith
      by p k (Some l) e = sound.limits.costs p k l e

  -- K × S is the greatest label and K.
  pub greatest_label_and : greatest_cost m * m.size ≡ greatest_label m + greatest_cost m
  greatest_label_and =
      let s : suc (m.size - 1) ≡ m.size = omega (arith, sound.limits.some_place) in
      ap (λ n. greatest_cost m * n) (sym s) ∙ mul-suc (greatest_cost m) (m.size - 1)

  -- The greatest label is within the limit.
  pub greatest_label_below : greatest_label m ≤ limit
  greatest_label_below = mul-le-mul {n₂ = 65535} {m₂ = 4095} greatest_cost_below (omega (arith, sound.limits.few_places))

  -- No search on its own records meets the greatest total.
  pub most_expansions_below : most_expansions m < greatest_total
  most_expansions_below =
      let h : m.size * (greatest_label m + 1) ≤ 4096 * (limit + 1) =
      mul-le-mul {n₂ = 4096} {m₂ = limit + 1} sound.limits.few_places (omega (arith, greatest_label_below)) in
      omega arith
