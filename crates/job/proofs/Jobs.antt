-- A job over a floor, from what its calls promise.
use Rattle.std.proofs.Common.{◌≡◌, ℕ, Bool, true, false, cond, eqb, leb, List, [], ◌∷◌, length, is_some, Some, None, Option, sym, refl, ap, ◌∙◌, subst, arith}
use Rattle.std.proofs.lemmas.Bool.{true≢false, eqb-true}
use Rattle.floors.specs.Guided.{Guided}
use Rattle.floors.specs.Questions.{first_no, unless}
use Rattle.search.proofs.Asked.{AllYes, all_yes}
use Rattle.search_model.specs.declared.bound.Bound.{Bound}
use Rattle.search_model.specs.declared.search.Search.{Search}
use Rattle.search_model.specs.Advance.{Answer, Barren, Settled, More, Outcome, going}
use Rattle.search_model.specs.Begin.{first_records, first_search}
use Rattle.search_model.specs.Read.{Trail, read_route}
use Rattle.table.specs.declared.node.Node.{Node}
use Rattle.table.specs.Order.{in_order}
use Rattle.table.specs.Table.{records}
use Rattle.reading.specs.Trails.{measured, pair_of, written}
use Rattle.search.specs.Calls.{Told, told, refused, asked, Begun, ReadDone}
use Rattle.search.specs.Reports.{AdvanceReport, advance_report_of, AdvanceReported}
use Rattle.search.specs.Questions.{begin_questions, advance_questions, read_questions}
use Rattle.search.specs.Runs.{AnswerPromise}
use Rattle.search.specs.CallRuns.{advanced, read, done, by_advance, by_read, ReportPromise, CallsGuaranteed, CallsKept}
use Rattle.search.specs.Told.{advanced_as, reported}
use Rattle.search.specs.declared.running.Running.{Running}
use Rattle.search.specs.declared.states.Advanced.{Advanced}
use Rattle.search.specs.declared.states.Barren.{Barren as BarrenSearch}
use Rattle.search.specs.declared.states.Settled.{Settled as SettledSearch}
use Rattle.search.specs.declared.states.Report.{Report}
use Rattle.job.specs.declared.answer.JobAnswer.{JobAnswer}
use Rattle.job.specs.Floors.{answer_as, answered, job_outcome, settled_route, FloorJobDone}
use Rattle.job.specs.Kept.{RouteKept, JobKept}
use Rattle.job.specs.Questions.{job_questions}

-- A question that is answered yes is not the first no.
not_35 : (a b d c : Bool) → ◌≡◌ {A = Option ℕ} (cond a (cond b (cond d (cond c None (Some 36)) (Some 35)) (Some 33)) (Some 34)) (Some 35) → d ≡ true → ⊥
not_35 true true true true h e = let w : ◌≡◌ {A = ℕ} 0 1 = cc in omega arith
not_35 true true true false h e = let w : ◌≡◌ {A = ℕ} 36 35 = cc in omega arith
not_35 true true false c h e = true≢false (sym e)
not_35 true false d c h e = let w : ◌≡◌ {A = ℕ} 33 35 = cc in omega arith
not_35 false b d c h e = let w : ◌≡◌ {A = ℕ} 34 35 = cc in omega arith

not_38 : (a b c d : Bool) → ◌≡◌ {A = Option ℕ} (cond a (cond b (cond c (cond d None (Some 38)) (Some 37)) (Some 33)) (Some 34)) (Some 38) → (a ≡ true → d ≡ true) → ⊥
not_38 true true true true h e = let w : ◌≡◌ {A = ℕ} 0 1 = cc in omega arith
not_38 true true true false h e = true≢false (sym (e refl))
not_38 true true false d h e = let w : ◌≡◌ {A = ℕ} 37 38 = cc in omega arith
not_38 true false c d h e = let w : ◌≡◌ {A = ℕ} 33 38 = cc in omega arith
not_38 false b c d h e = let w : ◌≡◌ {A = ℕ} 34 38 = cc in omega arith

measured_is : (w : Option Trail) (pair : ℕ × ℕ) → is_some w ≡ true → pair ≡ pair_of w → Some pair ≡ measured w
measured_is None pair h e = absurd (true≢false (sym h))
measured_is (Some w) pair h e = ap Some e

module _
    (g : Guided) (start : ℕ) (bound : Bound) (budget : ℕ) (t : List Node) (list : List ℕ)
    (none : None ≡ first_no (job_questions g.floor start bound budget t (length list)))
  where
    yes : AllYes (job_questions g.floor start bound budget t (length list))
    yes = all_yes (job_questions g.floor start bound budget t (length list)) (sym none)

    begins : first_no (begin_questions g.floor start bound t) ≡ None
    begins = let (place, (valid, (sized, _))) = yes in rw (place, valid, sized)

    spends : leb budget 65535 ≡ true
    spends = yes.1.1.1.0

    roomy : leb g.floor.size (length list) ≡ true
    roomy = yes.1.1.1.1.0

    o : Outcome
    o = job_outcome g start bound budget

    -- The begin is accepted.
    pub never_at_begin : (k : ℕ) (t₁ : List Node) → Begun g start bound t (refused k) t₁ → ⊥
    never_at_begin k t₁ begun =
        let is : refused k ≡ told (first_search g start bound) = begun.said ∙ ap (λ no. asked no (first_search g start bound)) begins in
        let w : ◌≡◌ {A = ℕ} 0 1 = cc in
        omega arith

    module _ (s : Search) (t₁ : List Node) (begun : Begun g start bound t (told s) t₁) (kept : CallsKept g start bound (told s) t₁) where
      is_first : s ≡ first_search g start bound
      is_first = let is : told s ≡ told (first_search g start bound) = begun.said ∙ ap (λ no. asked no (first_search g start bound)) begins in cc

      is_outcome : going g budget s (records t₁) ≡ o
      unfolding o
      is_outcome =
          ap (λ x. going g budget x (records t₁)) is_first
          ∙ ap (going g budget (first_search g start bound)) (begun.left ∙ ap (λ no. unless no (first_records g start) (records t)) begins)

      -- The advance is accepted.
      advance_none : (a : Told AdvanceReport) (t₂ : List Node) → AdvanceReported g s budget t₁ a t₂ → first_no (advance_questions g.floor s budget t₁) ≡ None
      advance_none a t₂ did = by (first_no (advance_questions g.floor s budget t₁)) refl
        where
          by : (x : Option ℕ) → first_no (advance_questions g.floor s budget t₁) ≡ x → x ≡ None
          by None e = refl
          by (Some k) e =
              let is : a ≡ refused k = did.said ∙ ap (λ x. asked x (advance_report_of (going g budget s (records t₁)))) e in
              let only : (k ≡ 35) × Unit {0} = subst (λ x. CallsGuaranteed g.floor start bound 0 (advanced budget x ∷ [])) is (kept (advanced budget a ∷ []) _ (by_advance budget s t₁ a t₂ did done)) in
              absurd (not_35 (eqb g.floor.size s.size) (eqb (length t₁) s.size) (leb budget 65535) (in_order s t₁) (e ∙ ap Some only.0) spends)

      pub never_at_advance : (k : ℕ) (t₂ : List Node) → AdvanceReported g s budget t₁ (refused k) t₂ → ⊥
      never_at_advance k t₂ did =
          let is : refused k ≡ told (advance_report_of (going g budget s (records t₁))) = did.said ∙ ap (λ x. asked x (advance_report_of (going g budget s (records t₁)))) (advance_none (refused k) t₂ did) in
          let w : ◌≡◌ {A = ℕ} 0 1 = cc in
          omega arith

      module _ (x : AdvanceReport) (t₂ : List Node) (did : AdvanceReported g s budget t₁ (told x) t₂) where
        accepted : first_no (advance_questions g.floor s budget t₁) ≡ None
        accepted = advance_none (told x) t₂ did

        is_advance : x ≡ advance_report_of o
        is_advance =
            let is : told x ≡ told (advance_report_of (going g budget s (records t₁))) = did.said ∙ ap (λ no. asked no (advance_report_of (going g budget s (records t₁)))) accepted in
            let same : x ≡ advance_report_of (going g budget s (records t₁)) = cc in
            same ∙ ap advance_report_of is_outcome

        is_left : records t₂ ≡ o.records
        is_left = did.left ∙ ap (λ no. unless no (going g budget s (records t₁)).records (records t₁)) accepted ∙ ap (λ (y : Outcome). y.records) is_outcome

        -- A job that ends with this route and list.
        ends :
            (list₂ : List ℕ) (route : Option (ℕ × ℕ))
            → route ≡ measured (settled_route g.floor o)
            → list₂ ≡ written (settled_route g.floor o) list
            → FloorJobDone g start bound budget t list (told (record { advance = x; route = route })) t₂ list₂
        unfolding o
        ends list₂ route is wrote = record {
          said = rw (is_advance, is) (ap (λ no. asked no (answered g.floor o)) none);
          left = is_left ∙ ap (λ no. unless no o.records (records t)) none;
          listed = wrote ∙ ap (λ no. unless no (written (settled_route g.floor o) list) list) none;
          same = λ e. absurd (true≢false (sym e ∙ ap is_some (sym none)));
          ordered = λ _. subst (λ (y : Outcome). in_order y.search_after t₂ ≡ true) is_outcome (did.ordered (ap is_some accepted));
        }

        keeps :
            (list₂ : List ℕ) (route : Option (ℕ × ℕ))
            → RouteKept g.floor start bound list list₂ x.answer route
            → JobKept g start bound budget (record { advance = x; route = route }) t₂ list list₂
        keeps list₂ route h = record {
          advanced = (kept (advanced budget (told x) ∷ []) _ (by_advance budget s t₁ (told x) t₂ did done)).0;
          route = h;
          onward = λ es z run. (kept (advanced budget (told x) ∷ es) z (by_advance budget s t₁ (told x) t₂ did run)).1;
        }

        -- what the outcome's route is, by the answer
        routed : (a : Answer) → x.answer ≡ a → settled_route g.floor o ≡ elim a [ Barren ↦ None | Settled n ↦ read_route g.floor o.search_after o.records n | More ↦ None ]
        routed a e = ap (λ b. elim b [ Barren ↦ None | Settled n ↦ read_route g.floor o.search_after o.records n | More ↦ None ]) (sym (ap (λ (y : AdvanceReport). y.answer) is_advance) ∙ e)

        -- A job that is not settled.
        more_ends : x.answer ≡ More → FloorJobDone g start bound budget t list (told (record { advance = x; route = None })) t₂ list
        more_ends e = ends list None (ap measured (sym (routed More e))) (ap (λ w. written w list) (sym (routed More e)))

        barren_ends : x.answer ≡ Barren → FloorJobDone g start bound budget t list (told (record { advance = x; route = None })) t₂ list
        barren_ends e = ends list None (ap measured (sym (routed Barren e))) (ap (λ w. written w list) (sym (routed Barren e)))

        more_keeps : x.answer ≡ More → JobKept g start bound budget (record { advance = x; route = None }) t₂ list list
        more_keeps e = keeps list None (subst (λ a. RouteKept g.floor start bound list list a None) (sym e) tt)

        barren_keeps : x.answer ≡ Barren → JobKept g start bound budget (record { advance = x; route = None }) t₂ list list
        barren_keeps e =
            let promise : ReportPromise g.floor start 0 budget x = (kept (advanced budget (told x) ∷ []) _ (by_advance budget s t₁ (told x) t₂ did done)).0 in
            keeps list None (subst (λ a. RouteKept g.floor start bound list list a None) (sym e) (subst (AnswerPromise g.floor start budget x.spent) e promise.answered))

      -- A job that is settled.
      module _ (n spent total : ℕ) (mark : Option ℕ) (s₂ : Search) (t₂ : List Node)
          (did : AdvanceReported g s budget t₁ (told (record { answer = Settled n; spent = spent; total = total; mark = mark; search_after = s₂ })) t₂)
        where
          abbrev x : AdvanceReport
          x = record { answer = Settled n; spent = spent; total = total; mark = mark; search_after = s₂ }

          -- The read is accepted.
          read_none : (a : Told (ℕ × ℕ)) (list₂ : List ℕ) → ReadDone g.floor s₂ n t₂ list a list₂ → first_no (read_questions g.floor s₂ n t₂ (length list)) ≡ None
          read_none a list₂ Did_Read = by (first_no (read_questions g.floor s₂ n t₂ (length list))) refl
            where
              by : (y : Option ℕ) → first_no (read_questions g.floor s₂ n t₂ (length list)) ≡ y → y ≡ None
              by None e = refl
              by (Some k) e =
                  let is : a ≡ refused k = Did_Read.said ∙ ap (λ y. asked y (pair_of (read_route g.floor s₂ (records t₂) n))) e in
                  let only : (k ≡ 38) × (list₂ ≡ list) × Unit {0} =
                  subst (λ y. CallsGuaranteed g.floor start bound total (read list y list₂ ∷ [])) is
                  (kept (advanced budget (told x) ∷ read list a list₂ ∷ []) _ (by_advance budget s t₁ (told x) t₂ did (by_read n s₂ t₂ list a list₂ Did_Read done))).1 in
                  absurd (not_38 (eqb g.floor.size s₂.size) (eqb (length t₂) s₂.size) (is_some (read_route g.floor s₂ (records t₂) n)) (leb s₂.size (length list)) (e ∙ ap Some only.0)
                  (λ same. subst (λ size. leb size (length list) ≡ true) (eqb-true _ _ same) roomy))

          never_at_read : (k : ℕ) (list₂ : List ℕ) → ReadDone g.floor s₂ n t₂ list (refused k) list₂ → ⊥
          never_at_read k list₂ Did_Read =
              let is : refused k ≡ told (pair_of (read_route g.floor s₂ (records t₂) n)) =
              Did_Read.said ∙ ap (λ y. asked y (pair_of (read_route g.floor s₂ (records t₂) n))) (read_none (refused k) list₂ Did_Read) in
              let w : ◌≡◌ {A = ℕ} 0 1 = cc in
              omega arith

          module _ (pair : ℕ × ℕ) (list₂ : List ℕ) (Did_Read : ReadDone g.floor s₂ n t₂ list (told pair) list₂) where
            reads : first_no (read_questions g.floor s₂ n t₂ (length list)) ≡ None
            reads = read_none (told pair) list₂ Did_Read

            is_pair : Some pair ≡ measured (read_route g.floor s₂ (records t₂) n)
            is_pair =
                let is : told pair ≡ told (pair_of (read_route g.floor s₂ (records t₂) n)) = Did_Read.said ∙ ap (λ y. asked y (pair_of (read_route g.floor s₂ (records t₂) n))) reads in
                measured_is (read_route g.floor s₂ (records t₂) n) pair
                (all_yes (read_questions g.floor s₂ n t₂ (length list)) reads).1.1.0
                (cc)

            -- the route read is the outcome's
            is_route : read_route g.floor s₂ (records t₂) n ≡ settled_route g.floor o
            is_route =
                ap (λ rs. read_route g.floor s₂ rs n) (is_left x t₂ did)
                ∙ ap (λ (y : AdvanceReport). read_route g.floor y.search_after o.records n) (is_advance x t₂ did)
                ∙ sym (routed x t₂ did (Settled n) refl)

            settled_ends : FloorJobDone g start bound budget t list (told (record { advance = x; route = Some pair })) t₂ list₂
            settled_ends =
                ends x t₂ did list₂ (Some pair) (is_pair ∙ ap measured is_route)
                (Did_Read.left ∙ ap (λ y. unless y (written (read_route g.floor s₂ (records t₂) n) list) list) reads ∙ ap (λ w. written w list) is_route)

            settled_keeps : JobKept g start bound budget (record { advance = x; route = Some pair }) t₂ list list₂
            settled_keeps =
                keeps x t₂ did list₂ (Some pair)
                (kept (advanced budget (told x) ∷ read list (told pair) list₂ ∷ []) _ (by_advance budget s t₁ (told x) t₂ did (by_read n s₂ t₂ list (told pair) list₂ Did_Read done))).1.0

      -- The answers, as the advance has them.
      module _ (adv : Advanced) (t₂ : List Node) (did : AdvanceReported g s budget t₁ (told (advanced_as adv)) t₂) where
        pub job_more :
            (running : Running) (report : Report)
            → adv ≡ Advanced.More running report
            → FloorJobDone g start bound budget t list (told (answer_as (JobAnswer.More running report))) t₂ list
            × JobKept g start bound budget (answer_as (JobAnswer.More running report)) t₂ list list
        job_more running report is =
            let d : AdvanceReported g s budget t₁ (told (reported More report running.state)) t₂ = subst (λ a. AdvanceReported g s budget t₁ (told (advanced_as a)) t₂) is did in
            (more_ends (reported More report running.state) t₂ d refl, more_keeps (reported More report running.state) t₂ d refl)

        pub job_barren :
            (barren : BarrenSearch) (report : Report)
            → adv ≡ Advanced.Barren barren report
            → FloorJobDone g start bound budget t list (told (answer_as (JobAnswer.Barren barren report))) t₂ list
            × JobKept g start bound budget (answer_as (JobAnswer.Barren barren report)) t₂ list list
        job_barren barren report is =
            let d : AdvanceReported g s budget t₁ (told (reported Barren report barren.state)) t₂ = subst (λ a. AdvanceReported g s budget t₁ (told (advanced_as a)) t₂) is did in
            (barren_ends (reported Barren report barren.state) t₂ d refl, barren_keeps (reported Barren report barren.state) t₂ d refl)

        module _ (settled : SettledSearch) (report : Report) (is : adv ≡ Advanced.Settled settled report) where
          settled_did : AdvanceReported g s budget t₁ (told (reported (Settled settled.goal) report settled.state)) t₂
          settled_did = subst (λ a. AdvanceReported g s budget t₁ (told (advanced_as a)) t₂) is did

          pub never_read : (k : ℕ) (list₂ : List ℕ) → ReadDone g.floor settled.state settled.goal t₂ list (refused k) list₂ → ⊥
          never_read = never_at_read settled.goal report.expansions report.total report.low_mark settled.state t₂ settled_did

          pub job_settled :
              (pair : ℕ × ℕ) (list₂ : List ℕ)
              → ReadDone g.floor settled.state settled.goal t₂ list (told pair) list₂
              → FloorJobDone g start bound budget t list (told (answer_as (JobAnswer.Settled settled report pair))) t₂ list₂
              × JobKept g start bound budget (answer_as (JobAnswer.Settled settled report pair)) t₂ list list₂
          job_settled pair list₂ Did_Read = (
            settled_ends settled.goal report.expansions report.total report.low_mark settled.state t₂ settled_did pair list₂ Did_Read,
            settled_keeps settled.goal report.expansions report.total report.low_mark settled.state t₂ settled_did pair list₂ Did_Read,
          )
