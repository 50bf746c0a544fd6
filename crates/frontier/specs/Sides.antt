-- The sides of open places.
use Rattle.std.specs.Prelude.{ℕ}
use Rattle.frontier.specs.declared.side.Side.{Side}
use Rattle.frontier.specs.declared.side.Side.TheVariants.{Near, Far}

-- What a node stores.
abbrev pub number_of : Side → ℕ
number_of Far = 0
number_of Near = 1
