-- Records stay within their limits.
use Rattle.std.proofs.Common.{ℕ, ◌<◌, ◌≤◌, List, set, ◌∙◌, arith}
use Rattle.floors.specs.declared.leg.Leg.{Leg}
use Rattle.floors.specs.Guided.{Guided, SoundGuided}
use Rattle.floors.specs.Sound.{limit}
use Rattle.search_model.specs.declared.records.Record.{Record}
use Rattle.search_model.specs.Records.{at, Open}
use Rattle.search_model.specs.Expansion.{labelled, spread, closed, expanded}
use Rattle.search_model.specs.Begin.{first_records}
use Rattle.search_model.specs.Fields.{SeenLimits, RecordLimits, Proper, LimitsKept}
use Rattle.search_model.proofs.Table.{changed_keeps, begun_keeps, begun_sized}
use Rattle.search_model.proofs.Labels.{Given, given_record, offered_label, closing}
use Rattle.search_model.proofs.Rules.{Kept, kept_by_labels, spread_rule, going_rule}

module _ (g : Guided) (sound : SoundGuided g) where
  -- A label within the limit makes a record within its limits.
  pub labelled_limits : (place label parent leg : ℕ) → label ≤ limit → RecordLimits (labelled g place label parent leg)
  labelled_limits place label parent leg h =
      let low : g.floor.low place ≤ limit = sound.floor.limits.lows place in
      let hope : g.hope place ≤ limit = sound.hopes place in
      record {
        mark = omega arith;
        seen = λ _. record { label = h; low = omega arith; hope = omega arith; steps = sound.step_counts place };
      }

  pub begin_proper : (start : ℕ) → start < g.floor.size → Proper g (first_records g start)
  begin_proper start on =
      record {
        sized = begun_sized g start on;
        limits =
            begun_keeps g start on RecordLimits (labelled_limits start 0 start 0 (omega arith)) (record { mark = omega arith; seen = λ h. absurd (omega arith) });
      }

  legs_proper : (n : ℕ) → Kept g n (λ k t. Proper g t)
  legs_proper n = kept_by_labels g n (Proper g) sound (λ t p. p.sized) taken
    where
      taken : (k : ℕ) (t : List Record) (l : Leg) → Given g t n k l → Proper g t → Proper g (set t l.target (given_record g t n k l))
      taken k t l h p =
          record {
            sized = h.change.sized ∙ p.sized;
            limits = λ q. changed_keeps h.change RecordLimits (labelled_limits l.target (offered_label t n l) n k h.small) q (p.limits q);
          }

  pub spread_proper : (n : ℕ) (t : List Record) → Proper g t → (k : ℕ) → Proper g (spread g n k t)
  spread_proper n = spread_rule g n (λ k t. Proper g t) (legs_proper n)

  pub closing_proper : (n : ℕ) (t : List Record) → Open t n → Proper g t → Proper g (set t n (closed (at t n)))
  closing_proper n t o p =
      let r : SeenLimits (at t n) = (p.limits n).seen (omega arith) in
      record {
        sized = (closing t n o).sized ∙ p.sized;
        limits =
            λ q.
            changed_keeps
            (closing t n o)
            RecordLimits
            (record { mark = omega arith; seen = λ _. record { label = r.label; low = r.low; hope = r.hope; steps = r.steps } })
            q
            (p.limits q);
      }

  pub expanded_proper : (n : ℕ) (t : List Record) → Open t n → Proper g t → Proper g (expanded g n t)
  expanded_proper n t o p = spread_proper n (set t n (closed (at t n))) (closing_proper n t o p) (g.floor.count n)

pub limits_kept : LimitsKept
limits_kept =
    record {
      begins = λ g start sound on. begin_proper g sound start on;
      advances = λ g budget s t sound p. (going_rule g (λ k s t. Proper g t) (λ k s t n h p. expanded_proper g sound n t h.opened p) budget 0 s t p).holds;
    }
