-- A part of a record that is read and written, with nothing else of the record.
use Rattle.std.specs.Prelude.{◌≡◌}

-- What is written is read; writing what is there changes nothing; of two writes the last counts.
pub record Lens {R X : Type 0} (get : R → X) (put : R → X → R) : Type 0 where
  pub put_get : (r : R) (x : X) → get (put r x) ≡ x
  pub get_put : (r : R) → put r (get r) ≡ r
  pub put_put : (r : R) (x y : X) → put (put r x) y ≡ put r y

-- Two parts of one record lie apart: a write to one leaves the other as it is.
pub record Apart {R X Y : Type 0} (get : R → X) (put : R → X → R) (get' : R → Y) (put' : R → Y → R) : Type 0 where
  pub left : (r : R) (y : Y) → get (put' r y) ≡ get r
  pub right : (r : R) (x : X) → get' (put r x) ≡ get' r
