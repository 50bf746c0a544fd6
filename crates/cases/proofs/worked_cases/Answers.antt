use Rattle.std.proofs.Common.{refl}
use Rattle.layout.specs.Records.{record_at}
use Rattle.cases.proofs.worked_cases.Goals as goal

pub returns : goal.returns
unfolding record_at
returns c = record {
  route = c.cheapest.ensures;
  cases = record {
    sample = record { accepts = refl; means = refl; just = refl; too_high = refl };
    sample_shut = record { accepts = refl; before = refl; after = refl };
    grid = record { accepts = refl; low = refl; hope = refl; steps = refl; means = refl };
    cost = record { greatest = refl; most = refl };
    three_halves = record { run = refl; route = refl };
    two_then_one = record { run = refl; route = refl; then_run = refl; then_route = refl };
    seven_quarters = record { run = refl };
    shut_search = record { run = refl; route = refl };
    four_places = record { run = refl; label = refl; route = refl };
    one_place = record { unspent = refl; spent = refl; settled = refl; route = refl };
  };
}
