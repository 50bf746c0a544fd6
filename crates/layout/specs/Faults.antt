-- The number of each fault's question, and the record that it names.
use Rattle.std.specs.Prelude.{◌≡◌, ℕ, Ok, Err, Result}
use Rattle.layout.specs.declared.fault.RecordFault.{RecordFault}
use Rattle.layout.specs.declared.fault.RecordFault.TheVariants.{Tag, FixedBytes, FirstLeg, Target, Estimate}
use Rattle.layout.specs.declared.fault.LayoutFault.{LayoutFault}
use Rattle.layout.specs.declared.fault.LayoutFault.TheVariants.{Length, FirstRecord, TooMany, Record, HighGoal, SteepLeg}
use Rattle.layout.specs.Verdict.{Verdict, accepted, refused}

abbrev pub record_verdict : RecordFault → Verdict
record_verdict (Tag r) = refused 3 r
record_verdict (FixedBytes r) = refused 5 r
record_verdict (FirstLeg r) = refused 6 r
record_verdict (Target r) = refused 7 r
record_verdict (Estimate r) = refused 8 r

abbrev pub layout_verdict : LayoutFault → Verdict
layout_verdict (Length r) = refused 1 r
layout_verdict FirstRecord = refused 2 0
layout_verdict (TooMany r) = refused 4 r
layout_verdict (Record fault) = record_verdict fault
layout_verdict (HighGoal r) = refused 9 r
layout_verdict (SteepLeg r) = refused 9 r

-- What an answer says: accepted, or the fault's number and record.
abbrev pub says : {A E : Type 0} → (E → Verdict) → Result A E → Verdict
says of-fault (Ok x) = accepted
says of-fault (Err fault) = of-fault fault

-- Each fault that is named for a record has the question's number and that record.
abbrev pub Names : (ℕ → RecordFault → Type 0) → ℕ → Type 0
Names gives number = (r : ℕ) (fault : RecordFault) → gives r fault → record_verdict fault ≡ refused number r
