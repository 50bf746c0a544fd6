-- Over a sound floor the shut floor is sound.
use Rattle.std.specs.Prelude.{◌≡◌, Bool, List, Some, None, Option, refl}
use Rattle.std.proofs.Common.{ap, le_refl, arith}
use Rattle.floors.specs.declared.leg.Leg.{Leg}
use Rattle.floors.specs.Meaning.{Meaning}
use Rattle.floors.specs.Shut.{unless_shut, shut_floor}
use Rattle.floors.specs.Sound.{Sound}
use Rattle.floors.specs.Transfer.{FloorMap, law_transfers}

-- A leg that is usable above is the same leg below.
usable_below : (flags : List Bool) (o : Option Leg) (l : Leg) → unless_shut flags o ≡ Some l → o ≡ Some l
usable_below flags None l e = e
usable_below flags (Some x) l e = grind arith

module _ (flags : List Bool) (m : Meaning) where
  -- the places of the shut floor are those below
  pub shut_map : FloorMap (shut_floor flags m) m (λ p. p)
  shut_map = record {
    places = λ p h. h;
    legs = λ p k l e. record { number = k; leg = l; usable = usable_below flags (m.leg p k) l e; target = refl; cost = refl };
    goals = λ p e. e;
    lows = λ p. le_refl (m.low p);
  }

  pub shut_sound : Sound m → Sound (shut_floor flags m)
  shut_sound s = record {
    limits = record {
      some_place = s.limits.some_place;
      few_places = s.limits.few_places;
      few_legs = s.limits.few_legs;
      targets = λ p k l e. s.limits.targets p k l (usable_below flags (m.leg p k) l e);
      costs = λ p k l e. s.limits.costs p k l (usable_below flags (m.leg p k) l e);
      lows = s.limits.lows;
    };
    outside = record {
      no_legs = s.outside.no_legs;
      past_list = λ p k h. ap (unless_shut flags) (s.outside.past_list p k h);
      no_goal = s.outside.no_goal;
      no_low = s.outside.no_low;
    };
    admissible = law_transfers (shut_floor flags m) m (λ p. p) shut_map s.admissible;
  }
