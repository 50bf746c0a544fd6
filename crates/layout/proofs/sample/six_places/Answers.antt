use Rattle.std.proofs.Common.{refl}
use Rattle.layout.specs.Records.{record_at}
use Rattle.layout.proofs.sample.six_places.Goals as goal

pub returns : goal.returns
unfolding record_at
returns c = record {
  records = rw (c.encode_place.ensures, c.encode_place-2.ensures, c.encode_place-3.ensures, c.encode_place-4.ensures, c.encode_place-5.ensures, c.encode_place-6.ensures, c.encode_leg.ensures, c.encode_leg-2.ensures, c.encode_leg-3.ensures, c.encode_leg-4.ensures, c.encode_leg-5.ensures, c.encode_leg-6.ensures, c.encode_leg-7.ensures);
  means = record { accepts = refl; means = refl; just = refl; too_high = refl };
}
