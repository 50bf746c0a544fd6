use Rattle.std.proofs.Common.{refl}
use Rattle.layout.specs.Records.{record_at}
use Rattle.layout.proofs.shut_sample.shut_place.Goals as goal

pub returns : goal.returns
unfolding record_at
returns c = record { place = refl; bars = record { accepts = refl; before = refl; after = refl } }
