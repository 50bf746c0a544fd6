-- A trail measured from its end: what is counted so far, and what is left.
use Rattle.std.proofs.Common.{◌≡◌, ℕ, suc, ◌+◌, ◌-◌, ◌*◌, ◌<◌, ◌≤◌, List, [], ◌∷◌, length, is_some, Some, None, Option, sym, refl, ap, ◌∙◌, subst, arith, length-append}
use Rattle.floors.specs.Meaning.{Meaning}
use Rattle.floors.specs.Sound.{Sound}
use Rattle.search_model.specs.declared.records.Record.{Record}
use Rattle.search_model.specs.Read.{Trail, extended, follow}
use Rattle.reading.specs.declared.back.Back.{Back}
use Rattle.reading.specs.declared.back.Back.TheVariants.{Arrived, Parent, Lost}
use Rattle.reading.specs.declared.back.Step.{Step}
use Rattle.reading.specs.Back.{step_back}
use Rattle.reading.specs.Trails.{measured, pair_of}
use Rattle.reading.proofs.Steps.{trail_by, follow_back, step_cheap}

-- The measure of a trail with more places and more cost.
abbrev pub measured_with : ℕ → ℕ → Option Trail → Option (ℕ × ℕ)
measured_with count cost None = None
measured_with count cost (Some w) = Some (count + length w.places, cost + w.cost)

same_pair : {a b c d : ℕ} → a ≡ b → c ≡ d → ◌≡◌ {A = Option (ℕ × ℕ)} (Some (a, c)) (Some (b, d))
same_pair {a} {b} {c} {d} e f = ap (λ x. Some (x, c)) e ∙ ap (λ x. Some (b, x)) f

measured_extended : (count cost d p : ℕ) (x : Option Trail) → measured_with count cost (extended d p x) ≡ measured_with (count + 1) (cost + d) x
measured_extended count cost d p None = refl
measured_extended count cost d p (Some w) = same_pair (omega (arith, length-append w.places (p ∷ []))) (omega arith)

-- A pair is told of every trail, and of nothing else.
pub measured_some : (x : Option Trail) → is_some (measured x) ≡ is_some x
measured_some None = refl
measured_some (Some w) = refl

-- It is the pair that a read tells.
pub measured_pair : (x : Option Trail) (pair : ℕ × ℕ) → measured x ≡ Some pair → pair_of x ≡ pair
measured_pair None pair e = let z : ◌≡◌ {A = ℕ} 0 1 = cc in absurd (omega arith)
measured_pair (Some w) pair e = cc

-- The measure by the step back from the next place.
abbrev pub measured_by : ℕ → ℕ → Back → (ℕ → Option Trail) → Option (ℕ × ℕ)
measured_by count cost Arrived before = Some (count + 1, cost)
measured_by count cost (Parent s) before = measured_with (count + 1) (cost + s.cost) (before s.parent)
measured_by count cost Lost before = None

measured_trail : (count cost p : ℕ) (b : Back) (before : ℕ → Option Trail) → measured_with count cost (trail_by p b before) ≡ measured_by count cost b before
measured_trail count cost p Arrived before = same_pair refl (omega arith)
measured_trail count cost p (Parent s) before = measured_extended count cost s.cost p (before s.parent)
measured_trail count cost p Lost before = refl

-- The whole, after some places and their cost: what is left from the next place comes to it.
pub record Counted (m : Meaning) (start : ℕ) (t : List Record) (most count cost place : ℕ) (whole : Option (ℕ × ℕ)) : Type 0 where
  pub cheap : cost ≤ 65535 * count
  pub spent : most ≤ count → whole ≡ None
  pub left : count < most → whole ≡ measured_by count cost (step_back m start t place) (follow m start t (most - (count + 1)))

module _ (m : Meaning) (start : ℕ) (t : List Record) (most : ℕ) where
  counted_from :
      (count cost place : ℕ)
      → cost ≤ 65535 * count
      → Counted m start t most count cost place (measured_with count cost (follow m start t (most - count) place))
  counted_from count cost place cheap =
      record {
        cheap = cheap;
        spent = λ h. let none : most - count ≡ 0 = omega arith in ap (λ n. measured_with count cost (follow m start t n place)) none;
        left = λ h.
            let one : most - count ≡ suc (most - (count + 1)) = omega arith in
            ap (λ n. measured_with count cost (follow m start t n place)) one
            ∙ ap (measured_with count cost) (follow_back m start t place (most - (count + 1)))
            ∙ measured_trail count cost place (step_back m start t place) (follow m start t (most - (count + 1)));
      }

  -- One step further back.
  pub counted_more :
      (count cost place : ℕ) (s : Step) (whole : Option (ℕ × ℕ))
      → Sound m
      → Counted m start t most count cost place whole
      → count < most
      → Parent s ≡ step_back m start t place
      → Counted m start t most (count + 1) (cost + s.cost) s.parent whole
  counted_more count cost place s whole sound h room e =
      subst
      (Counted m start t most (count + 1) (cost + s.cost) s.parent)
      (ap (λ b. measured_by count cost b (follow m start t (most - (count + 1)))) e ∙ sym (h.left room))
      (counted_from (count + 1) (cost + s.cost) s.parent (omega (arith, h.cheap, step_cheap m start t place sound s e)))
