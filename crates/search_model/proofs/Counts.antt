-- Sums over the numbers below n.
use Rattle.std.proofs.Common.{◌≡◌, ℕ, zero, suc, ◌+◌, ◌<◌, ◌≤◌, subst, ⊎_elim, arith}
use Rattle.std.proofs.lemmas.Bool.{cases_lt}

abbrev pub sum_below : (ℕ → ℕ) → ℕ → ℕ
sum_below v zero = 0
sum_below v (suc n) = sum_below v n + v n

pub sum_mono : (v w : ℕ → ℕ) (n : ℕ) → ((p : ℕ) → v p ≤ w p) → sum_below v n ≤ sum_below w n
sum_mono v w zero h = omega arith
sum_mono v w (suc n) h = omega (arith, h n, sum_mono v w n h)

pub sum_strict : (v w : ℕ → ℕ) (n q : ℕ) → ((p : ℕ) → v p ≤ w p) → q < n → v q < w q → sum_below v n < sum_below w n
sum_strict v w zero q h l b = absurd (omega arith)
sum_strict v w (suc n) q h l b = ⊎_elim (λ k. omega (arith, h n, sum_strict v w n q h k b)) (λ k. here k) (cases_lt q n)
  where
    here : n ≤ q → sum_below v n + v n < sum_below w n + w n
    here k =
        let same : q ≡ n = omega arith in
        let more : v n < w n = subst (λ x. v x < w x) same b in
        omega (arith, sum_mono v w n h)

pub sum_few : (v : ℕ → ℕ) (n : ℕ) → ((p : ℕ) → v p ≤ 1) → sum_below v n ≤ n
sum_few v zero h = omega arith
sum_few v (suc n) h = omega (arith, h n, sum_few v n h)
