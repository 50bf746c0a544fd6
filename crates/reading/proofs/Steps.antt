-- What is followed from a place, by the step back from it.
use Rattle.std.proofs.Common.{◌≡◌, ℕ, suc, ◌≤◌, Bool, true, false, eqb, List, [], ◌∷◌, Some, None, Option, sym, refl, subst}
use Rattle.floors.specs.declared.leg.Leg.{Leg}
use Rattle.floors.specs.Meaning.{Meaning}
use Rattle.floors.specs.Sound.{Sound}
use Rattle.search_model.specs.declared.records.Record.{Record}
use Rattle.search_model.specs.Records.{at}
use Rattle.search_model.specs.Read.{Trail, extended, follow}
use Rattle.search_model.proofs.Trails.{follow_arrives, follow_barred, follow_astray, follow_parent}
use Rattle.reading.specs.declared.back.Back.{Back}
use Rattle.reading.specs.declared.back.Back.TheVariants.{Arrived, Parent, Lost}
use Rattle.reading.specs.declared.back.Step.{Step}
use Rattle.reading.specs.Back.{leg_back, step_back}

-- The trail to a place by the step back from it, with a trail to its parent.
abbrev pub trail_by : ℕ → Back → (ℕ → Option Trail) → Option Trail
trail_by p Arrived before = Some (record { places = p ∷ []; cost = 0 })
trail_by p (Parent s) before = extended s.cost p (before s.parent)
trail_by p Lost before = None

-- A step goes to the parent of the record, and costs no more than a leg.
abbrev pub ByRecord : Meaning → List Record → ℕ → Back → Type 0
ByRecord m t p Arrived = Unit {0}
ByRecord m t p (Parent s) = (s.parent ≡ (at t p).parent) × (Sound m → s.cost ≤ 65535)
ByRecord m t p Lost = Unit {0}

module _ (m : Meaning) (start : ℕ) (t : List Record) (p : ℕ) where
  -- The step back, with the tests that it comes from.
  data Way : Back → Type 0 where
    arrives : eqb p start ≡ true → Way Arrived
    barred : eqb p start ≡ false → m.leg (at t p).parent (at t p).leg ≡ None → Way Lost
    astray : eqb p start ≡ false → (l : Leg) → m.leg (at t p).parent (at t p).leg ≡ Some l → eqb l.target p ≡ false → Way Lost
    comes :
        eqb p start ≡ false
        → (l : Leg)
        → m.leg (at t p).parent (at t p).leg ≡ Some l
        → eqb l.target p ≡ true
        → Way (Parent (record { parent = (at t p).parent; cost = l.cost }))

  way : Way (step_back m start t p)
  way = by_start (eqb p start) refl
    where
      by_target :
          eqb p start ≡ false
          → (l : Leg)
          → m.leg (at t p).parent (at t p).leg ≡ Some l
          → (b : Bool)
          → eqb l.target p ≡ b
          → Way (elim b [ true ↦ Parent (record { parent = (at t p).parent; cost = l.cost }) | false ↦ Lost ])
      by_target e l h true u = comes e l h u
      by_target e l h false u = astray e l h u

      by_leg : eqb p start ≡ false → (o : Option Leg) → m.leg (at t p).parent (at t p).leg ≡ o → Way (leg_back (at t p).parent p o)
      by_leg e None h = barred e h
      by_leg e (Some l) h = by_target e l h (eqb l.target p) refl

      by_start :
          (b : Bool)
          → eqb p start ≡ b
          → Way (elim b [ true ↦ Arrived | false ↦ leg_back (at t p).parent p (m.leg (at t p).parent (at t p).leg) ])
      by_start true e = arrives e
      by_start false e = by_leg e (m.leg (at t p).parent (at t p).leg) refl

  -- What is followed from a place is the trail by the step back from it.
  pub follow_back : (n : ℕ) → follow m start t (suc n) p ≡ trail_by p (step_back m start t p) (follow m start t n)
  follow_back n = by (step_back m start t p) way
    where
      by : (b : Back) → Way b → follow m start t (suc n) p ≡ trail_by p b (follow m start t n)
      by Arrived (arrives e) = follow_arrives m start t n p e
      by Lost (barred e h) = follow_barred m start t n p e h
      by Lost (astray e l h u) = follow_astray m start t n p e l h u
      by (Parent s) (comes e l h u) = follow_parent m start t n p e l h u

  -- The step back goes by the record and a leg.
  pub back_by_record : ByRecord m t p (step_back m start t p)
  back_by_record = by (step_back m start t p) way
    where
      by : (b : Back) → Way b → ByRecord m t p b
      by Arrived w = tt
      by Lost w = tt
      by (Parent s) (comes e l h u) = (refl, λ sound. sound.limits.costs (at t p).parent (at t p).leg l h)

  pub step_cheap : Sound m → (s : Step) → Parent s ≡ step_back m start t p → s.cost ≤ 65535
  step_cheap sound s e = (subst (ByRecord m t p) (sym e) back_by_record).1 sound
