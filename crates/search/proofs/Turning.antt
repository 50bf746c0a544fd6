-- The turns of an advance over a table, one after another.
use Rattle.std.proofs.Common.{◌≡◌, ℕ, ◌+◌, ◌-◌, ◌<◌, Bool, true, false, cond, ltb, List, length, Some, None, Option, sym, refl, ap, ◌∙◌, subst, add-zero, arith}
use Rattle.std.proofs.lemmas.Bool.{ltb-true, ltb-false}
use Rattle.floors.specs.Guided.{Guided}
use Rattle.search_model.specs.declared.records.Record.{Record}
use Rattle.search_model.specs.declared.search.Search.{Search}
use Rattle.search_model.specs.Records.{at, f, Open}
use Rattle.search_model.specs.Choice.{low_place, choice}
use Rattle.search_model.specs.Expansion.{expanded}
use Rattle.search_model.specs.Advance.{going, stop, low_mark}
use Rattle.search_model.proofs.Chosen.{LowMark, low_mark_some, choice_some}
use Rattle.search_model.proofs.Loops.{Left, left_barren, left_settled, left_more, left_expands}
use Rattle.frontier.specs.declared.choose.Choice.{Choice}
use Rattle.frontier.specs.declared.frontier.Frontier.{Frontier}
use Rattle.table.specs.declared.node.Node.{Node}
use Rattle.frontier.specs.Choose.{Chosen, Picks}
use Rattle.frontier.specs.Endings.{Ended}
use Rattle.frontier.specs.Frontier.{Prepared}
use Rattle.table.specs.Order.{in_order}
use Rattle.table.specs.Table.{records}
use Rattle.table.proofs.OrderLaws.{order_tested}
use Rattle.expansion.specs.Expanding.{Expandable, Expanded}
use Rattle.search.specs.declared.next.End.{End}
use Rattle.search.specs.declared.next.End.TheVariants.{Barren, Settled, More}
use Rattle.std.specs.declared.ops.ControlFlow.{ControlFlow}
use Rattle.search.specs.declared.turns.Stopped.{Stopped}
use Rattle.std.specs.declared.ops.ControlFlow.TheVariants.{Break, Continue}
use Rattle.search.specs.Next.{next_of, answer_of, mark_of, one_more, with_total}
use Rattle.search.specs.Turns.{TurnsTaken, TurnsOrdered}

-- After some turns from records rs: what is left comes to the whole, and the table is ready.
pub record Turning (g : Guided) (s : Search) (budget : ℕ) (rs : List Record) (fr : Frontier) (spent total : ℕ) (t : List Node) : Type 0 where
  pub left : Left spent (going g (budget - spent) (with_total s total) (records t)) (going g budget s rs)
  pub prepared : Prepared s fr t
  pub sized : length t ≡ g.floor.size

no_low : (rs : List Record) → low_mark rs ≡ None → low_place rs ≡ None
no_low rs e = by (low_place rs) refl
  where
    by : (x : Option ℕ) → low_place rs ≡ x → x ≡ None
    by None is = refl
    by (Some p) is = let z : low_mark rs ≡ Some (f (at rs p)) = rw (is, low_mark) in let w : ◌≡◌ {A = ℕ} 0 1 = cc in absurd (omega arith)

-- One turn.
module _
    {g : Guided} {s : Search} {budget : ℕ} {rs : List Record} {fr : Frontier} {spent total : ℕ} {t : List Node}
    (h : Turning g s budget rs fr spent total t) {fr' : Frontier} {picked : Option Choice} {t' : List Node} (chosen : Chosen s t fr' picked t')
  where
    now_left : Left spent (going g (budget - spent) (with_total s total) (records t')) (going g budget s rs)
    now_left = subst (λ us. Left spent (going g (budget - spent) (with_total s total) us) (going g budget s rs)) (sym chosen.still.same_records) h.left

    -- what is known where the turns end, and where a place is to be expanded
    Decided : ControlFlow End ℕ → Type 0
    Decided (Break e) = TurnsTaken g s budget rs (record { ending = e; spent = spent; total = total; front = fr' }) t'
    Decided (Continue p) =
        (spent < budget)
        × Open (records t') p
        × Left (spent + 1) (going g (budget - (spent + 1)) (with_total s (one_more total)) (expanded g p (records t'))) (going g budget s rs)

    stops :
        (e : End)
        → Left spent (stop (answer_of e) (with_total s total) (records t')) (going g budget s rs)
        → low_mark (records t') ≡ mark_of e
        → TurnsTaken g s budget rs (record { ending = e; spent = spent; total = total; front = fr' }) t'
    stops e l m = record {
      answer = l.answer;
      mark = l.mark ∙ m;
      spent = l.count ∙ add-zero spent;
      after = l.search_after;
      left = sym l.records;
      prepared = chosen.still.prepared;
    }

    decision : (p : Option Choice) → picked ≡ p → Decided (next_of g.floor p spent budget)
    unfolding Decided
    decision None is = stops Barren (left_barren g budget spent (with_total s total) (records t') (going g budget s rs) now_left (no_low (records t') none)) none
      where
        none : low_mark (records t') ≡ None
        none = ap low_mark chosen.still.same_records ∙ subst (Picks s (records t)) is chosen.picks
    decision (Some c) is = by_goal (g.floor.goal c.place) refl
      where
        picks : (low_mark (records t) ≡ Some c.mark) × (choice s c.mark (records t) ≡ Some c.place)
        picks = subst (Picks s (records t)) is chosen.picks

        marked : low_mark (records t') ≡ Some c.mark
        marked = ap low_mark chosen.still.same_records ∙ picks.0

        by_mark : choice s c.mark (records t') ≡ Some c.place
        by_mark = ap (choice s c.mark) chosen.still.same_records ∙ picks.1

        low : LowMark (records t') c.mark
        low = low_mark_some (records t') c.mark marked

        is_choice : choice s (f (at (records t') low.place)) (records t') ≡ Some c.place
        is_choice = ap (λ m. choice s m (records t')) low.is_f ∙ by_mark

        by_room : g.floor.goal c.place ≡ false → (b : Bool) → ltb spent budget ≡ b → Decided (cond b (Continue c.place) (Break (More c)))
        by_room e true r = (
          ltb-true _ _ r,
          (choice_some s c.mark (records t') c.place by_mark).0,
          left_expands g budget spent (with_total s total) (records t') (going g budget s rs) now_left low.place c.place low.is_low is_choice e (ltb-true _ _ r),
        )
        by_room e false r =
            stops (More c) (left_more g budget spent (with_total s total) (records t') (going g budget s rs) now_left low.place c.place low.is_low is_choice e (ltb-false _ _ r)) marked

        by_goal : (b : Bool) → g.floor.goal c.place ≡ b → Decided (cond b (Break (Settled c)) (cond (ltb spent budget) (Continue c.place) (Break (More c))))
        by_goal true e = stops (Settled c) (left_settled g budget spent (with_total s total) (records t') (going g budget s rs) now_left low.place c.place low.is_low is_choice e) marked
        by_goal false e = by_room e (ltb spent budget) refl

    -- The turns end.
    pub turns_end :
        {first : List Record} (e : End)
        → rs ≡ first
        → Break e ≡ next_of g.floor picked spent budget
        → TurnsTaken g s budget first (record { ending = e; spent = spent; total = total; front = fr' }) t'
    unfolding Decided
    turns_end e same is = subst (λ us. TurnsTaken g s budget us (record { ending = e; spent = spent; total = total; front = fr' }) t') same (subst Decided (sym is) (decision picked refl))

    -- A place is expanded.
    module _ (p : ℕ) (is : Continue p ≡ next_of g.floor picked spent budget) where
      expands : Decided (Continue p)
      expands = subst Decided (sym is) (decision picked refl)

      pub room : spent < budget
      unfolding Decided
      room = expands.0

      pub can_expand : Expandable g.floor s fr' t' p
      unfolding Decided
      can_expand = record { prepared = chosen.still.prepared; sized = chosen.still.same_length ∙ h.sized; seen = let o : Open (records t') p = expands.1 in omega arith }

      pub turning_more : {fr'' : Frontier} {t'' : List Node} {more : ℕ} → Expanded g s t' p fr'' t'' → more ≡ one_more total → Turning g s budget rs fr'' (spent + 1) more t''
      unfolding Decided
      turning_more {t'' = t''} x is-more = record {
        left = subst (λ n. Left (spent + 1) (going g (budget - (spent + 1)) (with_total s n) (records t'')) (going g budget s rs)) (sym is-more)
            (subst (λ us. Left (spent + 1) (going g (budget - (spent + 1)) (with_total s (one_more total)) us) (going g budget s rs)) (sym x.records_are) expands.2);
        prepared = x.prepared;
        sized = x.same_length ∙ chosen.still.same_length ∙ h.sized;
      }

-- Turns that are taken, with the table back in order.
pub turns_ordered :
    {g : Guided} {s : Search} {budget : ℕ} {t : List Node} {r : Stopped} {t' : List Node} {fr : Frontier} {t'' : List Node}
    → TurnsTaken g s budget (records t) r t'
    → Ended s t' fr t''
    → TurnsOrdered g s budget t (record { ending = r.ending; spent = r.spent; total = r.total; front = fr }) t''
turns_ordered {s = s} {t'' = t''} h e = record {
  said = rw (h.answer, h.spent, h.after, h.mark);
  left = e.same_records ∙ h.left;
  ordered = ap (λ x. in_order x t'') h.after ∙ order_tested s t'' _ _ e.ordered;
}
