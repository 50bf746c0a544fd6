-- How far numbers are apart.
use Rattle.std.proofs.Common.{ℕ, ◌+◌, ◌≤◌, arith}
use Rattle.floors.specs.Grid.{apart}

pub apart_small : (a b top : ℕ) → a ≤ top → b ≤ top → apart a b ≤ top
apart_small a b top h k = omega arith

pub apart_triangle : (a b g : ℕ) → apart a g ≤ apart a b + apart b g
apart_triangle a b g = omega arith
