-- How the answers of the questions join.
use Rattle.std.proofs.Common.{◌≡◌, sym, refl, ap, ◌∙◌}
use Rattle.layout.specs.declared.fault.RecordFault.{RecordFault}
use Rattle.layout.specs.declared.fault.RecordFault.TheVariants.{Tag, FixedBytes, FirstLeg, Target, Estimate}
use Rattle.layout.specs.Faults.{record_verdict}
use Rattle.layout.specs.Verdict.{Verdict, accepted, refused, then}

-- a verdict that accepts leaves the word to the next
pub then_past : (v w : Verdict) {x : Verdict} → accepted ≡ v → x ≡ w → x ≡ then v w
then_past v w e f = f ∙ ap (λ y. then y w) e

-- a verdict that refuses is the last word
abbrev Refuses : Verdict → Type 0
Refuses accepted = ⊥
Refuses (refused number r) = Unit {0}

then_refuses : (x w : Verdict) → Refuses x → then x w ≡ x
then_refuses accepted w h = absurd h
then_refuses (refused number r) w h = refl

record_refuses : (fault : RecordFault) → Refuses (record_verdict fault)
record_refuses (Tag r) = tt
record_refuses (FixedBytes r) = tt
record_refuses (FirstLeg r) = tt
record_refuses (Target r) = tt
record_refuses (Estimate r) = tt

pub then_record : (fault : RecordFault) (v w : Verdict) → record_verdict fault ≡ v → record_verdict fault ≡ then v w
then_record fault v w e = sym (then_refuses _ w (record_refuses fault)) ∙ ap (λ y. then y w) e
