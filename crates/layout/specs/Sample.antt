-- Six places, worked through.
use Rattle.std.specs.Prelude.{◌≡◌, ℕ, true, false, List, [], ◌∷◌}
use Rattle.std.specs.List.{flat_map}
use Rattle.floors.specs.Guided.{guided}
use Rattle.floors.specs.Listing.{Listed, leg_to, listing}
use Rattle.layout.specs.Encoding.{place_bytes, leg_bytes}
use Rattle.layout.specs.Layout.{counts, floor_of, guesses_of}
use Rattle.layout.specs.Verdict.{accepted, refused, verdict}

-- Places 0 to 5, of which 5 is the goal; the low estimate of place 2 is left open. Then their legs.
abbrev pub six_records : ℕ → List (List ℕ)
six_records low2 =
    place_bytes 0 0 4 6 3 ∷ place_bytes 0 2 4 5 2 ∷ place_bytes 0 3 low2 8 2 ∷ place_bytes 0 5 2 3 1 ∷ place_bytes 0 6 1 1 1 ∷ place_bytes 1 7 0 0 0
    ∷ leg_bytes 1 2 ∷ leg_bytes 2 1 ∷ leg_bytes 3 2 ∷ leg_bytes 3 5 ∷ leg_bytes 4 4 ∷ leg_bytes 5 3 ∷ leg_bytes 5 1 ∷ []

abbrev pub six_places : ℕ → List ℕ
six_places low2 = flat_map (λ (bytes : List ℕ). bytes) (six_records low2)

-- The floor: for each place its low, hope and step estimates, whether it is a goal, and its legs.
abbrev six_floor : List Listed
six_floor =
    record { low = 4; hope = 6; steps = 3; goal = false; legs = leg_to 1 2 ∷ leg_to 2 1 ∷ [] }
    ∷ record { low = 4; hope = 5; steps = 2; goal = false; legs = leg_to 3 2 ∷ [] }
    ∷ record { low = 3; hope = 8; steps = 2; goal = false; legs = leg_to 3 5 ∷ leg_to 4 4 ∷ [] }
    ∷ record { low = 2; hope = 3; steps = 1; goal = false; legs = leg_to 5 3 ∷ [] }
    ∷ record { low = 1; hope = 1; steps = 1; goal = false; legs = leg_to 5 1 ∷ [] }
    ∷ record { low = 0; hope = 0; steps = 0; goal = true; legs = [] }
    ∷ []

-- With a low estimate of 3 at place 2 the layout is accepted and means that floor; with 5 it is accepted; with 6 the
-- leg from place 2 to place 4, record 10, breaks the law.
pub record SixPlaces : Type 0 where
  pub accepts : verdict (six_places 3) ≡ accepted
  pub means : listing (guided (floor_of (six_places 3) (counts (six_places 3))) (guesses_of (six_places 3) (counts (six_places 3)))) ≡ six_floor
  pub just : verdict (six_places 5) ≡ accepted
  pub too_high : verdict (six_places 6) ≡ refused 9 10
