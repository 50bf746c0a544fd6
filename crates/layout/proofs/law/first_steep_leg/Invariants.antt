use Rattle.std.proofs.Common.{◌≡◌, None}
use Rattle.layout.specs.Records.{record_at}
use Rattle.layout.specs.Steep.{Gentle, GentleAt}
use Rattle.layout.proofs.law.first_steep_leg.Given as goal

abbrev pub invariant-places : goal.invariant-places
invariant-places g l = (l.found ≡ None) × Gentle (g.F.Floor.meaning l.floor) (λ p. (record_at l.layout p).word1) l.place

abbrev pub invariant-loop-number : goal.invariant-loop-number
invariant-loop-number g l =
    (l.found ≡ None)
    × Gentle (g.F.Floor.meaning l.floor) (λ p. (record_at l.layout p).word1) l.place
    × GentleAt (g.F.Floor.meaning l.floor) (λ p. (record_at l.layout p).word1) l.place l.number
