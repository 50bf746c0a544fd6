use Rattle.std.proofs.Common.{refl}
use Rattle.search_model.proofs.worked_cases.Goals as goal

pub returns : goal.returns
returns c =
    record {
      six_places_cost = record { greatest = refl; most = refl };
      three_halves = record { run = refl; route = refl };
      two_then_one = record { run = refl; route = refl; then_run = refl; then_route = refl };
      seven_quarters = record { run = refl };
      four_shut_cases = record { run = refl; route = refl };
      four_places_cases = record { run = refl; label = refl; route = refl };
      one_place = record { unspent = refl; spent = refl; settled = refl; route = refl };
    }
