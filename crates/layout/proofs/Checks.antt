-- How the answers of the intake's parts join.
use Rattle.std.proofs.Common.{◌≡◌, ℕ, ◌<◌, List, get_or, Ok, Err, Result, sym, ap, ◌∙◌, subst}
use Rattle.layout.specs.declared.counts.Counts.{Counts}
use Rattle.layout.specs.declared.fault.LayoutFault.{LayoutFault}
use Rattle.layout.specs.declared.fault.LayoutFault.TheVariants.{Record}
use Rattle.layout.specs.declared.fault.RecordFault.{RecordFault}
use Rattle.layout.specs.Checked.{Checked}
use Rattle.layout.specs.Faults.{record_verdict, layout_verdict}
use Rattle.layout.specs.Layout.{counts}
use Rattle.layout.specs.Verdict.{accepted, shape, each_record, low_law, verdict}
use Rattle.layout.proofs.Accepted.{all_fine}
use Rattle.layout.proofs.Verdicts.{then_past, then_record}

refusal : (bs : List ℕ) (r : Result Counts LayoutFault) (fault : LayoutFault) → r ≡ Err fault → layout_verdict fault ≡ verdict bs → Checked bs r
refusal bs r fault is e = subst (Checked bs) (sym is) (record { said = e; divides = tt; fine = tt })

module _ (bs : List ℕ) (n : Counts) (counted : n ≡ counts bs) (shaped : accepted ≡ shape bs) where
  -- a record is refused
  pub record_refused : (r : Result Counts LayoutFault) (fault : RecordFault) (y : LayoutFault) → r ≡ Err y → y ≡ Record fault
      → record_verdict fault ≡ each_record bs n → Checked bs r
  record_refused r fault y is turned e = refusal bs r y is (ap layout_verdict turned
      ∙ then_past (shape bs) _ shaped (then_record fault (each_record bs (counts bs)) _ (e ∙ ap (each_record bs) counted)))

  -- the low estimates are refused
  pub low_refused : (r : Result Counts LayoutFault) (fault y : LayoutFault) → r ≡ Err y → y ≡ fault
      → accepted ≡ each_record bs n → layout_verdict fault ≡ low_law bs n → Checked bs r
  low_refused r fault y is same read e = refusal bs r y is (ap layout_verdict same
      ∙ then_past (shape bs) _ shaped (then_past (each_record bs (counts bs)) _ (read ∙ ap (each_record bs) counted) (e ∙ ap (low_law bs) counted)))

  -- nothing is refused
  pub all_accepted : ((i : ℕ) → get_or bs i 0 < 256) → accepted ≡ each_record bs n → accepted ≡ low_law bs n → Checked bs (Ok n)
  all_accepted bytes read lows = record {
    said = then_past (shape bs) _ shaped (then_past (each_record bs (counts bs)) _ (read ∙ ap (each_record bs) counted) (lows ∙ ap (low_law bs) counted));
    divides = counted;
    fine = all_fine bs n bytes counted shaped read lows;
  }
