-- Maps between floors carry the law upwards.
use Rattle.std.specs.Prelude.{◌≡◌, ℕ, ◌+◌, ◌<◌, ◌≤◌, true, List, [], ◌∷◌, map, Some, refl}
use Rattle.std.proofs.Common.{sym, ap, ◌∙◌, arith}
use Rattle.floors.specs.declared.leg.Leg.{Leg}
use Rattle.floors.specs.Meaning.{Meaning}
use Rattle.floors.specs.Route.{Route, last, alone, onward}
use Rattle.floors.specs.Sound.{Admissible}

-- A usable leg from place p that leads to place q at cost c.
pub record UsableLeg (m : Meaning) (p q c : ℕ) : Type 0 where
  pub number : ℕ
  pub leg : Leg
  pub usable : m.leg p number ≡ Some leg
  pub target : leg.target ≡ q
  pub cost : leg.cost ≡ c

-- A map from the places of one floor to those of another that takes places to places, goals to goals and usable legs to
-- usable legs of the same cost, with low estimates above that are at most those below.
pub record FloorMap (above below : Meaning) (φ : ℕ → ℕ) : Type 0 where
  pub places : (p : ℕ) → p < above.size → φ p < below.size
  pub legs : (p k : ℕ) (l : Leg) → above.leg p k ≡ Some l → UsableLeg below (φ p) (φ l.target) l.cost
  pub goals : (p : ℕ) → above.goal p ≡ true → below.goal (φ p) ≡ true
  pub lows : (p : ℕ) → above.low p ≤ below.low (φ p)

module _ (above below : Meaning) (φ : ℕ → ℕ) (h : FloorMap above below φ) where
  -- the map takes a route to a route of the same cost
  pub route_below : (p : ℕ) (qs : List ℕ) (c : ℕ) → Route above p qs c → Route below (φ p) (map φ qs) c
  route_below p [] c (alone on zero-cost) = alone (h.places p on) zero-cost
  route_below p (q ∷ qs) c (onward k l d usable to route cost) =
      let u = h.legs p k l usable in
      onward u.number u.leg d u.usable (u.target ∙ ap φ to) (route_below q qs d route) (cost ∙ ap (λ x. x + d) (sym u.cost))

  last_below : (p : ℕ) (qs : List ℕ) → last (φ p) (map φ qs) ≡ φ (last p qs)
  last_below p [] = refl
  last_below p (q ∷ qs) = last_below q qs

  -- and so the law below gives the law above
  pub law_transfers : Admissible below → Admissible above
  law_transfers law p c r =
      let ends : below.goal (last (φ p) (map φ r.places)) ≡ true =
      ap below.goal (last_below p r.places) ∙ h.goals (last p r.places) r.ends in
      let least : below.low (φ p) ≤ c =
      law (φ p) c (record { places = map φ r.places; route = route_below p r.places c r.route; ends = ends }) in
      omega (arith, h.lows p, least)
