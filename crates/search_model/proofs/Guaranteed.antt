-- Every event of a run has its guarantee.
use Rattle.std.proofs.Common.{◌≡◌, ℕ, ◌*◌, ◌<◌, ◌≤◌, true, List, Some, sym, refl, ap, ◌∙◌, subst, mul-le-mul_left, arith}
use Rattle.floors.specs.Route.{ToGoal}
use Rattle.floors.specs.Guided.{Guided, SoundGuided}
use Rattle.search_model.specs.declared.bound.Bound.{Bound}
use Rattle.search_model.specs.declared.records.Record.{Record}
use Rattle.search_model.specs.declared.search.Search.{Search}
use Rattle.search_model.specs.Records.{at, Seen}
use Rattle.search_model.specs.Advance.{Answer, Barren, Settled, More, Outcome, low_mark}
use Rattle.search_model.specs.Begin.{rebounded}
use Rattle.search_model.specs.Read.{follow, read_route}
use Rattle.search_model.specs.Costs.{ValidBound, most_expansions}
use Rattle.search_model.specs.Guarantee.{SettledLaw, AnswerLaw, MarkLaw, AdvanceLaw, ReadLaw}
use Rattle.search_model.specs.Run.{State, running, settled, barren, left_by, Event, Run, done, advance, rebound_running, rebound_settled, read, Guaranteed, Guarantee}
use Rattle.search_model.proofs.Table.{seen_on}
use Rattle.search_model.proofs.Chosen.{Picked}
use Rattle.search_model.proofs.Heads.{low_none}
use Rattle.search_model.proofs.Rules.{AnswerSays, Ended}
use Rattle.search_model.proofs.Costs.{most_expansions_below}
use Rattle.search_model.proofs.Reached.{Reached, ReachedFrom, begin_reaches, advance_reaches, rebound_reaches}
use Rattle.search_model.proofs.Frontier.{barren_no_route, low_mark_below, chosen_bounded, reached_chosen}
use Rattle.search_model.proofs.Trails.{Readable, chain_readable}

-- A reached state of a search from a start, under a bound and with a total.
pub record Standing (g : Guided) (start : ℕ) (bound : Bound) (total : ℕ) (s : Search) (t : List Record) : Type 0 where
  pub reached : Reached g s t
  pub start_is : s.start ≡ start
  pub bound_is : s.bound ≡ bound
  pub total_is : s.total ≡ total

module _ (g : Guided) (sound : SoundGuided g) where
  -- A seen place can be read.
  readable : (s : Search) (t : List Record) (n : ℕ) → Reached g s t → Seen t n → Readable g.floor s.start t n
  readable s t n h seen =
      chain_readable
      g.floor
      sound.floor
      s.start
      (subst (λ x. s.start < x) h.invariant.sized (seen_on t s.start h.invariant.start_seen))
      t
      n
      (subst (λ x. n < x) h.invariant.sized (seen_on t n seen))
      (h.invariant.chains n seen)

  -- A goal that is picked is settled.
  pub settled_law : (s : Search) (t : List Record) (n : ℕ) → Reached g s t → Picked g s t n true → SettledLaw g.floor s.start s.bound t n
  settled_law s t n h p =
      let seen : Seen t n = omega (arith, p.opened) in
      let r : Readable g.floor s.start t n = readable s t n h seen in
      record {
        is_goal = p.at_goal;
        seen = seen;
        bounded =
            chosen_bounded
            g
            sound
            s.start
            t
            h.invariant
            s
            p.mark
            n
            (reached_chosen g s t n h p)
            (low_mark_below g sound s.start t h.invariant p.mark p.marked);
        reachable = (r.to.rest, r.trail.cost, r.to.route, r.to.ends);
      }

  pub answer_law : (s : Search) (t : List Record) (a : Answer) → Reached g s t → AnswerSays g s t a → AnswerLaw g.floor s.start s.bound t a
  answer_law s t Barren h says = barren_no_route g sound s.start t h.invariant says
  answer_law s t (Settled n) h says = settled_law s t n h says
  answer_law s t More h says = tt

  mark_law : (s : Search) (t : List Record) (a : Answer) → AnswerSays g s t a → MarkLaw a (low_mark t)
  mark_law s t Barren says = rw (low_none t says, low_mark)
  mark_law s t (Settled n) says = rw says.marked
  mark_law s t More says = rw says.1.marked

  -- What is read of a settled goal.
  pub read_law : (s : Search) (t : List Record) (n : ℕ) → Reached g s t → SettledLaw g.floor s.start s.bound t n → ReadLaw g.floor s.start s.bound n (read_route g.floor s t n)
  read_law s t n h law =
      let r : Readable g.floor s.start t n = readable s t n h law.seen in
      let is : read_route g.floor s t n ≡ Some r.trail = ap (λ x. follow g.floor s.start t x n) h.size ∙ r.is in
      subst
      (ReadLaw g.floor s.start s.bound n)
      (sym is)
      (record {
        rest = r.to.rest;
        places = r.to.places;
        route = r.to.route;
        ends = r.to.ends;
        is_goal = law.is_goal;
        few = r.to.few;
        bounded =
            λ c to.
            let below : s.bound.b * r.trail.cost ≤ s.bound.b * (at t n).label = mul-le-mul_left s.bound.b r.cheap in
            omega (arith, law.bounded c to);
      })

-- What holds of a state: a reached one, and of a settled one its law.
abbrev pub StateInvariant : Guided → ℕ → Bound → ℕ → State → Type 0
StateInvariant g start bound total (running s t) = Standing g start bound total s t
StateInvariant g start bound total (settled n s t) = Standing g start bound total s t × SettledLaw g.floor start bound t n
StateInvariant g start bound total barren = Unit {0}

module _ (g : Guided) (sound : SoundGuided g) (start : ℕ) where
  -- The law at the start and the bound of a standing search.
  pub standing_law :
      {bound : Bound} {total : ℕ} {s : Search} {t : List Record}
      → Standing g start bound total s t
      → (Law : ℕ → Bound → Type 0)
      → Law s.start s.bound
      → Law start bound
  standing_law {bound} {s = s} st Law law = subst (λ b. Law start b) st.bound_is (subst (λ x. Law x s.bound) st.start_is law)

  pub standing_back :
      {bound : Bound} {total : ℕ} {s : Search} {t : List Record}
      → Standing g start bound total s t
      → (Law : ℕ → Bound → Type 0)
      → Law start bound
      → Law s.start s.bound
  standing_back {bound} {s = s} st Law law = subst (λ b. Law s.start b) (sym st.bound_is) (subst (λ x. Law x bound) (sym st.start_is) law)

  pub rebound_invariant :
      {old : Bound} {total : ℕ} (s : Search) (t : List Record) (bound : Bound)
      → Standing g start old total s t
      → ValidBound bound
      → Standing g start bound total (rebounded bound s) t
  rebound_invariant s t bound st valid =
      record { reached = rebound_reaches g sound s t bound valid st.reached; start_is = st.start_is; bound_is = refl; total_is = st.total_is }

  -- What is left by an advance of a standing search, of which all that is used is how it ended.
  module _ (bound : Bound) (total budget : ℕ) (s : Search) (t : List Record) (o : Outcome) (st : Standing g start bound total s t) (e : Ended g (ReachedFrom g s) 0 budget o) where
    pub after_advance : Standing g start bound o.search_after.total o.search_after o.records
    after_advance =
        record {
          reached = e.holds.reached;
          start_is = e.holds.start ∙ st.start_is;
          bound_is = e.holds.bound ∙ st.bound_is;
          total_is = refl;
        }

    pub advance_law : AdvanceLaw g.floor start bound total budget o
    advance_law =
        let few : o.search_after.total ≤ most_expansions g.floor = omega (arith, e.holds.reached.spent) in
        record {
          answered =
              standing_law
              after_advance
              (λ x b. AnswerLaw g.floor x b o.records o.answer)
              (answer_law g sound o.search_after o.records o.answer e.holds.reached e.says);
          marked = subst (MarkLaw o.answer) (sym e.marked) (mark_law g sound o.search_after o.records o.answer e.says);
          mark_below =
              λ mark is.
              standing_law
              after_advance
              (λ x b. (c : ℕ) → ToGoal g.floor x c → mark ≤ c)
              (low_mark_below g sound o.search_after.start o.records e.holds.reached.invariant mark (sym e.marked ∙ is));
          spent = e.spent;
          affordable = e.affordable;
          exact = omega (arith, e.holds.total, st.total_is);
          few = few;
          uncapped = omega (arith, most_expansions_below g.floor sound.floor);
        }

  pub left_invariant : (bound : Bound) (total : ℕ) (s : Search) (t : List Record) (a : Answer) → Standing g start bound total s t → AnswerLaw g.floor start bound t a → StateInvariant g start bound total (left_by a s t)
  left_invariant bound total s t Barren st law = tt
  left_invariant bound total s t (Settled n) st law = (st, law)
  left_invariant bound total s t More st law = st

  pub run_guaranteed : {z y : State} {es : List Event} → Run g z es y → (bound : Bound) (total : ℕ) → StateInvariant g start bound total z → Guaranteed g.floor start bound total es
  run_guaranteed done bound total h = tt
  run_guaranteed (advance budget s t o is run) bound total h =
      let e : Ended g (ReachedFrom g s) 0 budget o = subst (Ended g (ReachedFrom g s) 0 budget) (sym is) (advance_reaches g sound budget s t h.reached) in
      let law : AdvanceLaw g.floor start bound total budget o = advance_law bound total budget s t o h e in (
        law,
        run_guaranteed
            run
            bound
            o.search_after.total
            (left_invariant bound o.search_after.total o.search_after o.records o.answer (after_advance bound total budget s t o h e) law.answered),
      )
  run_guaranteed (rebound_running b s t valid run) bound total h = run_guaranteed run b total (rebound_invariant s t b h valid)
  run_guaranteed (rebound_settled b n s t valid run) bound total h = run_guaranteed run b total (rebound_invariant s t b h.0 valid)
  run_guaranteed (read n s t r is run) bound total h = (
    subst
        (ReadLaw g.floor start bound n)
        (sym is)
        (standing_law
        h.0
        (λ x b. ReadLaw g.floor x b n (read_route g.floor s t n))
        (read_law g sound s t n h.0.reached (standing_back h.0 (λ x b. SettledLaw g.floor x b t n) h.1))),
    run_guaranteed run bound total h,
  )

pub guarantee : Guarantee
guarantee g start bound es z sound on valid run =
    run_guaranteed
    g
    sound
    start
    run
    bound
    0
    (record { reached = begin_reaches g sound start on bound valid; start_is = refl; bound_is = refl; total_is = refl })
