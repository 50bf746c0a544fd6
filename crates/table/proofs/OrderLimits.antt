-- The test of a record says that it is within its limits.
use Rattle.std.proofs.Common.{◌≡◌, Bool, true, ◌&&◌, ◌||◌, leb, ⊎_elim, arith}
use Rattle.std.proofs.lemmas.Bool.{and_parts, and_from, or_cases, or_left, or_right, eqb-true, eq-eqb, leb-true, le-leb, cases_eq}
use Rattle.floors.specs.Sound.{limit}
use Rattle.search_model.specs.declared.records.Record.{Record}
use Rattle.search_model.specs.Fields.{RecordLimits, SeenLimits}
use Rattle.search_model.specs.Records.{blank, is_unseen}
use Rattle.table.specs.Order.{record_right}

-- the fields of a seen place
abbrev seen_right : Record → Bool
seen_right r = leb r.label limit && (leb r.low r.hope && (leb r.hope limit && leb r.steps limit))

module _ (r : Record) where
  right_seen : seen_right r ≡ true → SeenLimits r
  right_seen u =
      let a = and_parts (leb r.label limit) _ u in
      let b = and_parts (leb r.low r.hope) _ a.1 in
      let c = and_parts (leb r.hope limit) _ b.1 in
      record { label = leb-true _ _ a.0; low = leb-true _ _ b.0; hope = leb-true _ _ c.0; steps = leb-true _ _ c.1 }

  seen_limits : SeenLimits r → seen_right r ≡ true
  seen_limits s = and_from _ _ (le-leb _ _ s.label) (and_from _ _ (le-leb _ _ s.low) (and_from _ _ (le-leb _ _ s.hope) (le-leb _ _ s.steps)))

  pub right_limits : record_right r ≡ true → RecordLimits r
  right_limits t =
      let both = and_parts (leb r.mark 2) (is_unseen r || seen_right r) t in
      record {
        mark = leb-true r.mark 2 both.0;
        seen = λ m. ⊎_elim (λ u. absurd (omega (arith, eqb-true r.mark 0 u))) right_seen (or_cases (is_unseen r) (seen_right r) both.1);
      }

  pub limits_right : RecordLimits r → record_right r ≡ true
  limits_right l = and_from _ _ (le-leb r.mark 2 l.mark) (⊎_elim
      (λ z. or_left (is_unseen r) _ (eq-eqb r.mark 0 z))
      (λ nz. or_right (is_unseen r) _ (seen_limits (l.seen (omega arith))))
      (cases_eq r.mark 0))

pub blank_limits : RecordLimits blank
blank_limits = record { mark = omega arith; seen = λ m. absurd (omega arith) }
