-- What a guided floor means.
use Rattle.std.specs.Prelude.{ℕ, ◌≤◌, cond, nat_lt}
use Rattle.std.proofs.Common.{arith}
use Rattle.floors.specs.Meaning.{Meaning}
use Rattle.floors.specs.Sound.{Sound, limit}

-- For each place a guess of the cost to go and one of the number of legs to go.
pub record Guesses : Type 0 where
  pub hope : ℕ → ℕ
  pub steps : ℕ → ℕ

-- Guesses owe no truth, only the limit of all estimates.
pub record Limited (g : Guesses) : Type 0 where
  pub hopes : (p : ℕ) → g.hope p ≤ limit
  pub step_counts : (p : ℕ) → g.steps p ≤ limit

-- A floor's meaning with the guesses added.
pub record Guided : Type 0 where
  pub floor : Meaning
  pub hope : ℕ → ℕ
  pub steps : ℕ → ℕ

-- Off the floor every guess is 0.
abbrev pub on_floor : Meaning → (ℕ → ℕ) → ℕ → ℕ
on_floor m guess p = cond (nat_lt p m.size) (guess p) 0

abbrev pub guided : Meaning → Guesses → Guided
guided m g = record { floor = m; hope = on_floor m g.hope; steps = on_floor m g.steps }

-- What a floor that offers guesses says of itself, as the members of its bound give it.
abbrev pub described : {F : Type 0} → record {
  meaning : F → Meaning;
  sound : (f : F) → Sound (meaning f);
  guesses : F → Guesses;
  limited : (f : F) → Limited (guesses f);
} → F → Guided
described says f = guided (says.meaning f) (says.guesses f)

-- A sound guided floor: its floor is sound and its guesses are within the limit.
pub record SoundGuided (g : Guided) : Type 0 where
  pub floor : Sound g.floor
  pub hopes : (p : ℕ) → g.hope p ≤ limit
  pub step_counts : (p : ℕ) → g.steps p ≤ limit

pub guided_sound : (m : Meaning) (g : Guesses) → Sound m → Limited g → SoundGuided (guided m g)
guided_sound m g s l = record {
  floor = s;
  hopes = λ p. grind (arith, l.hopes p);
  step_counts = λ p. grind (arith, l.step_counts p);
}
