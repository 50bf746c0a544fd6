-- What a total order is, as a test on two values.
use Rattle.std.specs.Prelude.{◌≡◌, Bool, true, ◌⊎◌}

-- Of two values one is at most the other, both ways only if they are equal, and at_most carries over.
pub record Ordered {E : Type 0} (at_most : E → E → Bool) : Type 0 where
  pub total : (x y : E) → (at_most x y ≡ true) ⊎ (at_most y x ≡ true)
  pub antisym : (x y : E) → at_most x y ≡ true → at_most y x ≡ true → x ≡ y
  pub trans : (x y z : E) → at_most x y ≡ true → at_most y z ≡ true → at_most x z ≡ true
