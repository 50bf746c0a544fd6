-- Every run of calls over a table keeps the guarantee.
use Rattle.std.proofs.Common.{◌≡◌, ℕ, Bool, true, false, cond, ◌&&◌, eqb, leb, List, ◌∷◌, ◌++◌, length, drop, is_some, Some, None, Option, sym, refl, ap, ◌∙◌, subst, arith}
use Rattle.std.proofs.lemmas.List.{length-map}
use Rattle.std.proofs.lemmas.Bool.{eq-eqb, leb-true, ltb-true, and_parts}
use Rattle.floors.specs.Guided.{Guided, SoundGuided}
use Rattle.floors.specs.Meaning.{Meaning}
use Rattle.floors.specs.Questions.{first_no, unless}
use Rattle.search.proofs.Asked.{all_yes}
use Rattle.search_model.specs.declared.bound.Bound.{Bound}
use Rattle.search_model.specs.declared.records.Record.{Record}
use Rattle.search_model.specs.declared.search.Search.{Search}
use Rattle.search_model.specs.Advance.{Answer, Barren, Settled, More, Outcome, expansions, going}
use Rattle.search_model.specs.Begin.{first_records, first_search, rebounded}
use Rattle.search_model.specs.Costs.{ValidBound}
use Rattle.search_model.specs.Guarantee.{AnswerLaw, AdvanceLaw, SettledLaw, ReadLaw, RouteLaw}
use Rattle.search_model.specs.Read.{Trail, read_route}
use Rattle.search_model.proofs.Guaranteed.{Standing, standing_law, standing_back, rebound_invariant, after_advance, advance_law, read_law}
use Rattle.search_model.proofs.Reached.{ReachedFrom, begin_reaches, advance_reaches}
use Rattle.search_model.proofs.Rules.{Ended}
use Rattle.table.specs.declared.node.Node.{Node}
use Rattle.table.specs.Order.{in_order}
use Rattle.table.specs.Table.{records}
use Rattle.reading.specs.Trails.{pair_of, written}
use Rattle.search.specs.Calls.{Told, told, refused, asked, ReboundDone, ReadDone}
use Rattle.search.specs.Reports.{AdvanceReport, advance_report_of, TurnsDone, AdvanceReported, EndDone, end_budget, end_budget_is}
use Rattle.search.specs.Questions.{bound_valid, begin_questions, advance_questions, end_questions, rebound_questions, read_questions}
use Rattle.search.specs.Runs.{State, running, settled, barren, left_by, rebounded_to, AnswerPromise}
use Rattle.search.specs.CallRuns.{reported_to, CallEvent, advanced, ended, rebound, read, CallRun, done, by_advance, by_end, by_rebound, by_settled_rebound, by_read, ReportPromise, CallsGuaranteed, CallsKept, CallsGuarantee}

-- A search that stands where the definition can bring it, over a table in order.
record Stands (g : Guided) (start : ℕ) (bound : Bound) (total : ℕ) (s : Search) (t : List Node) : Type 0 where
  standing : Standing g start bound total s (records t)
  ordered : in_order s t ≡ true

abbrev Invariant : Guided → ℕ → Bound → ℕ → State → Type 0
Invariant g start bound total (running s t) = Stands g start bound total s t
Invariant g start bound total (settled n s t) = Stands g start bound total s t × SettledLaw g.floor start bound (records t) n
Invariant g start bound total barren = Unit {0}

valid_bound : (bound : Bound) → bound_valid bound ≡ true → ValidBound bound
valid_bound bound e =
    let first = and_parts (leb 1 bound.b) (leb bound.b bound.a && leb bound.a 10000) e in
    let second = and_parts (leb bound.b bound.a) (leb bound.a 10000) first.1 in
    record { positive = leb-true _ _ first.0; ordered = leb-true _ _ second.0 }

module _ (g : Guided) (sound : SoundGuided g) (start : ℕ) where
  -- of the questions about the floor and the table every one is answered yes
  module _ {bound : Bound} {total : ℕ} {s : Search} {t : List Node} (h : Stands g start bound total s t) where
    floor_fits : eqb g.floor.size s.size ≡ true
    floor_fits = eq-eqb _ _ (sym h.standing.reached.size)

    table_fits : eqb (length t) s.size ≡ true
    table_fits = eq-eqb _ _ (sym (length-map t (λ (n : Node). n.kept)) ∙ h.standing.reached.invariant.sized ∙ sym h.standing.reached.size)

    advance_no : (budget : ℕ) → first_no (advance_questions g.floor s budget t) ≡ cond (leb budget 65535) None (Some 35)
    advance_no budget = rw (floor_fits, table_fits, h.ordered)

    end_no : first_no (end_questions g.floor s t) ≡ None
    end_no = rw (floor_fits, table_fits, h.ordered)

    rebound_no : (new : Bound) → first_no (rebound_questions s new t) ≡ cond (bound_valid new) None (Some 32)
    rebound_no new = rw (table_fits, h.ordered)

  answer_promise : (m : Meaning) (b : Bound) (rs : List Record) (budget spent : ℕ) (a : Answer) → AnswerLaw m start b rs a → (a ≡ More → spent ≡ budget) → AnswerPromise m start budget spent a
  answer_promise m b rs budget spent Barren law more = law
  answer_promise m b rs budget spent (Settled n) law more =
      let (qs, c, route, ends) = law.reachable in
      (law.is_goal, (c, record { places = qs; route = route; ends = ap m.goal ends ∙ law.is_goal }))
  answer_promise m b rs budget spent More law more = more refl

  advance_promise : (b : Bound) (total budget : ℕ) (o : Outcome) → AdvanceLaw g.floor start b total budget o → ReportPromise g.floor start total budget (advance_report_of o)
  advance_promise b total budget o law = record {
    answered = answer_promise g.floor b o.records budget (expansions o) o.answer law.answered law.spent;
    marked = law.marked;
    mark_below = λ mark c is to. law.mark_below mark is c to;
    affordable = law.affordable;
    exact = law.exact;
    few = law.few;
    uncapped = law.uncapped;
  }

  left_invariant : (b : Bound) (total : ℕ) (s : Search) (t : List Node) (a : Answer) → Stands g start b total s t → AnswerLaw g.floor start b (records t) a → Invariant g start b total (left_by a s t)
  left_invariant b total s t Barren h law = tt
  left_invariant b total s t (Settled n) h law = (h, law)
  left_invariant b total s t More h law = h

  -- what is known of the calls that follow
  Rest : State → List CallEvent → Type 0
  Rest z es = (b : Bound) (n : ℕ) → Invariant g start b n z → CallsGuaranteed g.floor start b n es

  -- an accepted call that takes turns up to a budget: what it tells, and that the search stands after it
  record Turned (bound : Bound) (total budget : ℕ) (s : Search) (t : List Node) (a : Told AdvanceReport) (t' : List Node) : Type 0 where
    outcome : Outcome
    said : a ≡ told (advance_report_of outcome)
    promise : ReportPromise g.floor start total budget (advance_report_of outcome)
    stays : Invariant g start bound outcome.search_after.total (left_by outcome.answer outcome.search_after t')

  turned :
      (bound : Bound) (total budget : ℕ) (no : Option ℕ) (s : Search) (t : List Node) (a : Told AdvanceReport) (t' : List Node)
      → Stands g start bound total s t
      → TurnsDone g s budget no t a t'
      → no ≡ None
      → Turned bound total budget s t a t'
  turned bound total budget first s t a t' h did none =
      let after : records t' ≡ o.records = did.left ∙ ap (λ no. unless no o.records (records t)) none in
      let ended : Ended g (ReachedFrom g s) 0 budget o = advance_reaches g sound budget s (records t) h.standing.reached in
      let law : AdvanceLaw g.floor start bound total budget o = advance_law g sound start bound total budget s (records t) o h.standing ended in
      let stands : Stands g start bound o.search_after.total o.search_after t' = record {
        standing = subst (Standing g start bound o.search_after.total o.search_after) (sym after) (after_advance g sound start bound total budget s (records t) o h.standing ended);
        ordered = did.ordered (ap is_some none);
      } in
      record {
        outcome = o;
        said = did.said ∙ ap (λ no. asked no (advance_report_of o)) none;
        promise = advance_promise bound total budget o law;
        stays = left_invariant bound o.search_after.total o.search_after t' o.answer stands
            (subst (λ rs. AnswerLaw g.floor start bound rs o.answer) (sym after) law.answered);
      }
    where
      o : Outcome
      o = going g budget s (records t)

  advance_case :
      (bound : Bound) (total budget : ℕ) (s : Search) (t : List Node) (a : Told AdvanceReport) (t' : List Node) (es : List CallEvent)
      → Stands g start bound total s t
      → AdvanceReported g s budget t a t'
      → Rest (reported_to a s t') es
      → CallsGuaranteed g.floor start bound total (advanced budget a ∷ es)
  unfolding Rest
  advance_case bound total budget s t a t' es h did rest = by (leb budget 65535) refl
    where
      by : (b : Bool) → leb budget 65535 ≡ b → CallsGuaranteed g.floor start bound total (advanced budget a ∷ es)
      by true e =
          let d : Turned bound total budget s t a t' =
          turned bound total budget (first_no (advance_questions g.floor s budget t)) s t a t' h did (advance_no h budget ∙ ap (λ b. cond b None (Some 35)) e) in
          subst (λ x. ((b : Bound) (n : ℕ) → Invariant g start b n (reported_to x s t') → CallsGuaranteed g.floor start b n es) → CallsGuaranteed g.floor start bound total (advanced budget x ∷ es)) (sym d.said)
          (λ more. (d.promise, more bound d.outcome.search_after.total d.stays))
          rest
      by false e =
          let some : first_no (advance_questions g.floor s budget t) ≡ Some 35 = advance_no h budget ∙ ap (λ b. cond b None (Some 35)) e in
          let is : a ≡ refused 35 = did.said ∙ ap (λ no. asked no (advance_report_of (going g budget s (records t)))) some in
          let same : t' ≡ t = did.same (ap is_some some) in
          subst (λ x. ((b : Bound) (n : ℕ) → Invariant g start b n (reported_to x s t') → CallsGuaranteed g.floor start b n es) → CallsGuaranteed g.floor start bound total (advanced budget x ∷ es)) (sym is)
          (λ more. (refl, more bound total (subst (Stands g start bound total s) (sym same) h)))
          rest

  -- more would need more expansions than the total can count
  never_more : (total : ℕ) (a : AdvanceReport) → ReportPromise g.floor start total end_budget a → a.answer ≡ More → ⊥
  never_more total a h e =
      let spent : a.spent ≡ end_budget = subst (AnswerPromise g.floor start end_budget a.spent) e h.answered in
      omega (arith, h.exact, h.uncapped, end_budget_is)

  end_case :
      (bound : Bound) (total : ℕ) (s : Search) (t : List Node) (a : Told AdvanceReport) (t' : List Node) (es : List CallEvent)
      → Stands g start bound total s t
      → EndDone g s t a t'
      → Rest (reported_to a s t') es
      → CallsGuaranteed g.floor start bound total (ended a ∷ es)
  unfolding Rest
  end_case bound total s t a t' es h did rest =
      let d : Turned bound total end_budget s t a t' = turned bound total end_budget (first_no (end_questions g.floor s t)) s t a t' h did (end_no h) in
      subst (λ x. ((b : Bound) (n : ℕ) → Invariant g start b n (reported_to x s t') → CallsGuaranteed g.floor start b n es) → CallsGuaranteed g.floor start bound total (ended x ∷ es)) (sym d.said)
      (λ more. (d.promise, never_more total (advance_report_of d.outcome) d.promise, more bound d.outcome.search_after.total d.stays))
      rest

  rebound_case :
      (bound new : Bound) (total : ℕ) (s : Search) (t : List Node) (a : Told Search) (t' : List Node) (es : List CallEvent) (before : State)
      → Stands g start bound total s t
      → (Stands g start bound total s t' → Invariant g start bound total before)
      → ReboundDone s new t a t'
      → Rest (rebounded_to a before t') es
      → CallsGuaranteed g.floor start bound total (rebound new a ∷ es)
  unfolding Rest
  rebound_case bound new total s t a t' es before h back did rest = by (bound_valid new) refl
    where
      by : (b : Bool) → bound_valid new ≡ b → CallsGuaranteed g.floor start bound total (rebound new a ∷ es)
      by true e =
          let none : first_no (rebound_questions s new t) ≡ None = rebound_no h new ∙ ap (λ b. cond b None (Some 32)) e in
          let is : a ≡ told (rebounded new s) = did.said ∙ ap (λ no. asked no (rebounded new s)) none in
          subst (λ x. ((b : Bound) (n : ℕ) → Invariant g start b n (rebounded_to x before t') → CallsGuaranteed g.floor start b n es) → CallsGuaranteed g.floor start bound total (rebound new x ∷ es)) (sym is)
          (λ more. more new total (record {
            standing = rebound_invariant g sound start s (records t') new (subst (Standing g start bound total s) (sym did.left) h.standing) (valid_bound new e);
            ordered = did.ordered (ap is_some none);
          }))
          rest
      by false e =
          let some : first_no (rebound_questions s new t) ≡ Some 32 = rebound_no h new ∙ ap (λ b. cond b None (Some 32)) e in
          let is : a ≡ refused 32 = did.said ∙ ap (λ no. asked no (rebounded new s)) some in
          subst (λ x. ((b : Bound) (n : ℕ) → Invariant g start b n (rebounded_to x before t') → CallsGuaranteed g.floor start b n es) → CallsGuaranteed g.floor start bound total (rebound new x ∷ es)) (sym is)
          (λ more. (refl, more bound total (back (subst (Stands g start bound total s) (sym (did.same (ap is_some some))) h))))
          rest

  read_case :
      (bound : Bound) (total n : ℕ) (s : Search) (t : List Node) (list : List ℕ) (a : Told (ℕ × ℕ)) (list' : List ℕ) (es : List CallEvent)
      → Stands g start bound total s t
      → SettledLaw g.floor start bound (records t) n
      → ReadDone g.floor s n t list a list'
      → CallsGuaranteed g.floor start bound total es
      → CallsGuaranteed g.floor start bound total (read list a list' ∷ es)
  read_case bound total n s t list a list' es h law did rest =
      trail (read_route g.floor s (records t) n) refl
      (standing_law g sound start h.standing (λ x b. ReadLaw g.floor x b n (read_route g.floor s (records t) n))
      (read_law g sound s (records t) n h.standing.reached (standing_back g sound start h.standing (λ x b. SettledLaw g.floor x b (records t) n) law)))
    where
      trail : (w : Option Trail) → read_route g.floor s (records t) n ≡ w → ReadLaw g.floor start bound n (read_route g.floor s (records t) n)
          → CallsGuaranteed g.floor start bound total (read list a list' ∷ es)
      trail None is route = absurd (subst (ReadLaw g.floor start bound n) is route)
      trail (Some w) is route = by (leb s.size (length list)) refl
        where
          found : RouteLaw g.floor start bound n w
          found = subst (ReadLaw g.floor start bound n) is route

          no : first_no (read_questions g.floor s n t (length list)) ≡ cond (leb s.size (length list)) None (Some 38)
          no = rw (floor_fits h, table_fits h, is)

          by : (b : Bool) → leb s.size (length list) ≡ b → CallsGuaranteed g.floor start bound total (read list a list' ∷ es)
          by true e =
              let none : first_no (read_questions g.floor s n t (length list)) ≡ None = no ∙ ap (λ b. cond b None (Some 38)) e in
              let said : a ≡ told (length w.places, w.cost) = did.said ∙ ap (λ x. asked x (pair_of (read_route g.floor s (records t) n))) none ∙ ap (λ x. told (pair_of x)) is in
              let left : list' ≡ w.places ++ drop (length w.places) list =
              did.left ∙ ap (λ x. unless x (written (read_route g.floor s (records t) n) list) list) none ∙ ap (λ x. written x list) is in
              subst (λ x. CallsGuaranteed g.floor start bound total (read list x list' ∷ es)) (sym said) (
                record {
                  places = found.rest;
                  route = found.route;
                  ends = ap g.floor.goal found.ends ∙ found.is_goal;
                  counted = ap length found.places;
                  few = found.few;
                  listed = left ∙ ap (λ x. x ++ drop (length w.places) list) found.places;
                  bounded = found.bounded;
                },
                rest,
              )
          by false e =
              let some : first_no (read_questions g.floor s n t (length list)) ≡ Some 38 = no ∙ ap (λ b. cond b None (Some 38)) e in
              let said : a ≡ refused 38 = did.said ∙ ap (λ x. asked x (pair_of (read_route g.floor s (records t) n))) some in
              let left : list' ≡ list = did.left ∙ ap (λ x. unless x (written (read_route g.floor s (records t) n) list) list) some in
              subst (λ x. CallsGuaranteed g.floor start bound total (read list x list' ∷ es)) (sym said) (refl, left, rest)

  run_guaranteed : {z y : State} {es : List CallEvent} → CallRun g z es y → (b : Bound) (n : ℕ) → Invariant g start b n z → CallsGuaranteed g.floor start b n es
  unfolding Rest
  run_guaranteed done b n h = tt
  run_guaranteed (by_advance {es = es} budget s t a t' did run) b n h = advance_case b n budget s t a t' es h did (run_guaranteed run)
  run_guaranteed (by_end {es = es} s t a t' did run) b n h = end_case b n s t a t' es h did (run_guaranteed run)
  run_guaranteed (by_rebound {es = es} new s t a t' did run) b n h = rebound_case b new n s t a t' es (running s t') h (λ x. x) did (run_guaranteed run)
  run_guaranteed (by_settled_rebound {es = es} new k s t a t' did run) b n h =
      rebound_case b new n s t a t' es (settled k s t') h.0
      (λ x. (x, subst (λ rs. SettledLaw g.floor start b rs k) (sym did.left) h.1)) did (run_guaranteed run)
  run_guaranteed (by_read {es = es} k s t list a list' did run) b n h = read_case b n k s t list a list' es h.0 h.1 did (run_guaranteed run b n h)

-- After an accepted begin every run keeps the guarantee.
pub guarantee : CallsGuarantee
guarantee g start bound t a t' sound did = by (first_no (begin_questions g.floor start bound t)) refl
  where
    by : (no : Option ℕ) → first_no (begin_questions g.floor start bound t) ≡ no → CallsKept g start bound a t'
    by (Some k) e = subst (λ x. CallsKept g start bound x t') (sym (did.said ∙ ap (λ x. asked x (first_search g start bound)) e)) tt
    by None e =
        let (place, (valid, _)) = all_yes (begin_questions g.floor start bound t) e in
        let after : records t' ≡ first_records g start = did.left ∙ ap (λ x. unless x (first_records g start) (records t)) e in
        let begun : Standing g start bound 0 (first_search g start bound) (first_records g start) =
        record { reached = begin_reaches g sound start (ltb-true _ _ place) bound (valid_bound bound valid); start_is = refl; bound_is = refl; total_is = refl } in
        let stands : Stands g start bound 0 (first_search g start bound) t' =
        record { standing = subst (Standing g start bound 0 (first_search g start bound)) (sym after) begun; ordered = did.ordered (ap is_some e) } in
        subst (λ x. CallsKept g start bound x t') (sym (did.said ∙ ap (λ x. asked x (first_search g start bound)) e))
        (λ es z run. run_guaranteed g sound start run bound 0 stands)
