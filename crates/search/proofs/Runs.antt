-- A run without advances to the end is a run of the calls that are offered, so it keeps the guarantee.
use Rattle.std.proofs.Common.{◌≡◌, ℕ, List, [], ◌∷◌, map, Some, None, Option, refl, ap, ◌∙◌, subst}
use Rattle.floors.specs.Guided.{Guided}
use Rattle.floors.specs.Meaning.{Meaning}
use Rattle.floors.specs.Questions.{first_no}
use Rattle.search_model.specs.declared.bound.Bound.{Bound}
use Rattle.search_model.specs.declared.search.Search.{Search}
use Rattle.search_model.specs.Advance.{going}
use Rattle.table.specs.declared.node.Node.{Node}
use Rattle.table.specs.Table.{records}
use Rattle.search.specs.Calls.{Told, told, refused, asked, Advance, advance_of, AdvanceDone, Begun}
use Rattle.search.specs.CallRuns as calls
use Rattle.search.specs.CallRuns.{CallEvent, CallRun, CallsGuaranteed, reported_to}
use Rattle.search.specs.Questions.{advance_questions}
use Rattle.search.specs.Reports.{AdvanceReport, AdvanceReported}
use Rattle.search.specs.Runs.{State, advanced_to, Event, advanced, rebound, read, Run, done, by_advance, by_rebound, by_settled_rebound, by_read, Guaranteed, Guarantee, Kept}
use Rattle.search.proofs.CallRuns as offered

-- What an advance tells, with the total in its report.
abbrev report : Advance → AdvanceReport
report a = record { answer = a.answer; spent = a.spent; total = a.search_after.total; mark = a.mark; search_after = a.search_after }

abbrev told_report : Told Advance → Told AdvanceReport
told_report (told a) = told (report a)
told_report (refused number) = refused number

abbrev event : Event → CallEvent
event (advanced budget a) = calls.advanced budget (told_report a)
event (rebound bound a) = calls.rebound bound a
event (read list p list') = calls.read list p list'

asked_report : (no : Option ℕ) (a : Advance) → told_report (asked no a) ≡ asked no (report a)
asked_report None a = refl
asked_report (Some number) a = refl

advance_reported : (g : Guided) (budget : ℕ) (s : Search) (t : List Node) (a : Told Advance) (t' : List Node) → AdvanceDone g s budget t a t' → AdvanceReported g s budget t (told_report a) t'
advance_reported g budget s t a t' did = record {
  said = ap told_report did.said ∙ asked_report (first_no (advance_questions g.floor s budget t)) (advance_of (going g budget s (records t)));
  left = did.left;
  same = did.same;
  ordered = did.ordered;
}

same_state : (a : Told Advance) (s : Search) (t : List Node) → advanced_to a s t ≡ reported_to (told_report a) s t
same_state (told a) s t = refl
same_state (refused number) s t = refl

call_run : {g : Guided} {z y : State} {es : List Event} → Run g z es y → CallRun g z (map event es) y
call_run done = calls.done
call_run {g = g} {y = y} (by_advance {es = es} budget s t a t' did run) =
    calls.by_advance budget s t (told_report a) t' (advance_reported g budget s t a t' did)
    (subst (λ z. CallRun g z (map event es) y) (same_state a s t') (call_run run))
call_run (by_rebound bound s t a t' did run) = calls.by_rebound bound s t a t' did (call_run run)
call_run (by_settled_rebound bound n s t a t' did run) = calls.by_settled_rebound bound n s t a t' did (call_run run)
call_run (by_read n s t list a list' did run) = calls.by_read n s t list a list' did (call_run run)

guaranteed : (m : Meaning) (start : ℕ) (bound : Bound) (total : ℕ) (es : List Event) → CallsGuaranteed m start bound total (map event es) → Guaranteed m start bound total es
guaranteed m start bound total [] h = tt
guaranteed m start bound total (advanced budget (told a) ∷ es) h = (h.0, guaranteed m start bound a.search_after.total es h.1)
guaranteed m start bound total (advanced budget (refused number) ∷ es) h = (h.0, guaranteed m start bound total es h.1)
guaranteed m start bound total (rebound new (told s) ∷ es) h = guaranteed m start new total es h
guaranteed m start bound total (rebound new (refused number) ∷ es) h = (h.0, guaranteed m start bound total es h.1)
guaranteed m start bound total (read list (told p) list' ∷ es) h = (h.0, guaranteed m start bound total es h.1)
guaranteed m start bound total (read list (refused number) list' ∷ es) h = (h.0, h.1, guaranteed m start bound total es h.2)

-- After an accepted begin every run keeps the guarantee.
pub guarantee : Guarantee
guarantee g start bound t a t' sound did = by a did
  where
    by : (a : Told Search) → Begun g start bound t a t' → Kept g start bound a t'
    by (told s) begun = λ es z run. guaranteed g.floor start bound 0 es (offered.guarantee g start bound t (told s) t' sound begun (map event es) z (call_run run))
    by (refused number) begun = tt
