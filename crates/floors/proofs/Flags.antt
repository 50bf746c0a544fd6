-- How a flag that is set or cleared changes the number of members.
use Rattle.std.proofs.Common.{◌≡◌, ℕ, ◌+◌, ◌<◌, Bool, true, false, cond, List, length, set, subst, arith}
use Rattle.std.proofs.lemmas.List.Sums.{sum_by-set}
use Rattle.floors.specs.Shut.{contains, members, with_place, without_place}

members_set : (flags : List Bool) (p : ℕ) (old new : Bool) → p < length flags → contains flags p ≡ old
    → members (set flags p new) + cond old 1 0 ≡ members flags + cond new 1 0
members_set flags p old new within is =
    subst (λ b. members (set flags p new) + cond b 1 0 ≡ members flags + cond new 1 0) is (sum_by-set (λ b. cond b 1 0) flags p new false within)

pub members_with : (flags : List Bool) (p : ℕ) → p < length flags → contains flags p ≡ false → members (with_place flags p) ≡ members flags + 1
members_with flags p within is = omega (arith, members_set flags p false true within is)

pub members_without : (flags : List Bool) (p : ℕ) → p < length flags → contains flags p ≡ true → members (without_place flags p) + 1 ≡ members flags
members_without flags p within is = omega (arith, members_set flags p true false within is)
