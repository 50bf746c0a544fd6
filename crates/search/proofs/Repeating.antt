-- Advances repeated after more come to one advance with enough budget.
use Rattle.std.proofs.Common.{◌≡◌, ℕ, zero, suc, ◌+◌, ◌*◌, ◌≤◌, List, length, sym, refl, ap, ◌∙◌, subst, mul-le-mul_right, arith}
use Rattle.std.proofs.lemmas.List.{length-map}
use Rattle.floors.specs.Guided.{Guided, SoundGuided}
use Rattle.floors.specs.Sound.{limit}
use Rattle.search_model.specs.declared.records.Record.{Record}
use Rattle.search_model.specs.declared.search.Search.{Search}
use Rattle.search_model.specs.Advance.{Barren, Settled, More, Outcome, Turn, nothing, goal, other, turn, stop, after, going}
use Rattle.search_model.specs.Expansion.{expanded, counted}
use Rattle.search_model.proofs.Potential.{ending}
use Rattle.table.specs.declared.node.Node.{Node}
use Rattle.table.specs.Order.{InOrder}
use Rattle.table.specs.Table.{records}
use Rattle.search.specs.declared.turns.Stopped.{Stopped}
use Rattle.search.specs.Reports.{AdvanceReport, end_budget, end_budget_is}
use Rattle.search.specs.Next.{answer_of}
use Rattle.search.specs.Turns.{TurnsOrdered}
use Rattle.search.specs.Repeating.{joined, Repeated, once, again, SameAsRepeated}

-- An advance by what its first turn finds.
module _ (g : Guided) (s : Search) (rs : List Record) where
  at_nothing : turn g s rs ≡ nothing → (n : ℕ) → going g n s rs ≡ stop Barren s rs
  at_nothing e zero = rw (e, going)
  at_nothing e (suc n) = rw (e, going)

  at_goal : (p : ℕ) → turn g s rs ≡ goal p → (n : ℕ) → going g n s rs ≡ stop (Settled p) s rs
  at_goal p e zero = rw (e, going)
  at_goal p e (suc n) = rw (e, going)

  -- where nothing is open or a goal is chosen it does not answer more
  not_nothing : turn g s rs ≡ nothing → (n : ℕ) → (going g n s rs).answer ≡ More → ⊥
  not_nothing e n h =
      let z : (stop Barren s rs).answer ≡ More = ap (λ (o : Outcome). o.answer) (sym (at_nothing e n)) ∙ h in
      let w : ◌≡◌ {A = ℕ} 0 1 = cc in
      omega arith

  not_goal : (p : ℕ) → turn g s rs ≡ goal p → (n : ℕ) → (going g n s rs).answer ≡ More → ⊥
  not_goal p e n h =
      let z : (stop (Settled p) s rs).answer ≡ More = ap (λ (o : Outcome). o.answer) (sym (at_goal p e n)) ∙ h in
      let w : ◌≡◌ {A = ℕ} 0 1 = cc in
      omega arith

  at_other : (p : ℕ) → turn g s rs ≡ other p → going g 0 s rs ≡ stop More s rs
  at_other p e = rw (e, going)

  past_other : (p : ℕ) → turn g s rs ≡ other p → (n : ℕ) → going g (suc n) s rs ≡ after p (going g n (counted s) (expanded g p rs))
  past_other p e n = rw (e, going)

-- An advance does not answer more.
Ends : Guided → ℕ → Search → List Record → Type 0
Ends g n s rs = (going g n s rs).answer ≡ More → ⊥

module _ (g : Guided) where
  -- Two advances that do not answer more are the same.
  same_end : (a b : ℕ) (s : Search) (rs : List Record) → Ends g a s rs → Ends g b s rs → going g a s rs ≡ going g b s rs
  unfolding Ends
  same_end zero b s rs h k = by (turn g s rs) refl
    where
      by : (x : Turn) → turn g s rs ≡ x → going g zero s rs ≡ going g b s rs
      by nothing e = at_nothing g s rs e zero ∙ sym (at_nothing g s rs e b)
      by (goal p) e = at_goal g s rs p e zero ∙ sym (at_goal g s rs p e b)
      by (other p) e = absurd (h (ap (λ (o : Outcome). o.answer) (at_other g s rs p e)))
  same_end (suc a) zero s rs h k = by (turn g s rs) refl
    where
      by : (x : Turn) → turn g s rs ≡ x → going g (suc a) s rs ≡ going g zero s rs
      by nothing e = at_nothing g s rs e (suc a) ∙ sym (at_nothing g s rs e zero)
      by (goal p) e = at_goal g s rs p e (suc a) ∙ sym (at_goal g s rs p e zero)
      by (other p) e = absurd (k (ap (λ (o : Outcome). o.answer) (at_other g s rs p e)))
  same_end (suc a) (suc b) s rs h k = by (turn g s rs) refl (same_end a b)
    where
      by :
          (x : Turn)
          → turn g s rs ≡ x
          → ((s : Search) (rs : List Record) → Ends g a s rs → Ends g b s rs → going g a s rs ≡ going g b s rs)
          → going g (suc a) s rs ≡ going g (suc b) s rs
      by nothing e rest = at_nothing g s rs e (suc a) ∙ sym (at_nothing g s rs e (suc b))
      by (goal p) e rest = at_goal g s rs p e (suc a) ∙ sym (at_goal g s rs p e (suc b))
      by (other p) e rest =
          past_other g s rs p e a
          ∙ ap (after p) (rest (counted s) (expanded g p rs)
          (λ x. h (ap (λ (o : Outcome). o.answer) (past_other g s rs p e a) ∙ x)) (λ x. k (ap (λ (o : Outcome). o.answer) (past_other g s rs p e b) ∙ x)))
          ∙ sym (past_other g s rs p e b)

  -- The rest of an advance after the first a turns, which answered more.
  Rest : ℕ → ℕ → Search → List Record → Type 0
  Rest a n s rs = (m : ℕ) × (going g n s rs ≡ joined (going g a s rs) (going g m (going g a s rs).search_after (going g a s rs).records))

  split : (a n : ℕ) (s : Search) (rs : List Record) → (going g a s rs).answer ≡ More → Ends g n s rs → Rest a n s rs
  unfolding Rest Ends
  split zero n s rs h k = by (turn g s rs) refl
    where
      by : (x : Turn) → turn g s rs ≡ x → Rest zero n s rs
      by nothing e = absurd (not_nothing g s rs e zero h)
      by (goal p) e = absurd (not_goal g s rs p e zero h)
      by (other p) e = (n, subst (λ (o : Outcome). going g n s rs ≡ joined o (going g n o.search_after o.records)) (sym (at_other g s rs p e)) refl)
  split (suc a) zero s rs h k = by (turn g s rs) refl
    where
      by : (x : Turn) → turn g s rs ≡ x → Rest (suc a) zero s rs
      by nothing e = absurd (not_nothing g s rs e (suc a) h)
      by (goal p) e = absurd (not_goal g s rs p e (suc a) h)
      by (other p) e = absurd (k (ap (λ (o : Outcome). o.answer) (at_other g s rs p e)))
  split (suc a) (suc n) s rs h k = by (turn g s rs) refl (split a n)
    where
      by :
          (x : Turn)
          → turn g s rs ≡ x
          → ((s : Search) (rs : List Record) → (going g a s rs).answer ≡ More → Ends g n s rs → Rest a n s rs)
          → Rest (suc a) (suc n) s rs
      by nothing e rest = absurd (not_nothing g s rs e (suc a) h)
      by (goal p) e rest = absurd (not_goal g s rs p e (suc a) h)
      by (other p) e rest =
          let first : (going g a (counted s) (expanded g p rs)).answer ≡ More = ap (λ (o : Outcome). o.answer) (sym (past_other g s rs p e a)) ∙ h in
          let left : Rest a n (counted s) (expanded g p rs) = rest (counted s) (expanded g p rs) first (λ x. k (ap (λ (o : Outcome). o.answer) (past_other g s rs p e n) ∙ x)) in (
            left.0,
            past_other g s rs p e n
                ∙ subst (λ (o : Outcome). after p (going g n (counted s) (expanded g p rs)) ≡ joined o (going g left.0 o.search_after o.records)) (sym (past_other g s rs p e a))
                (ap (after p) left.1),
          )

  -- Advances repeated after more come to any one advance that does not answer more.
  repeated_same : {s : Search} {rs : List Record} {o : Outcome} → Repeated g s rs o → (n : ℕ) → ((going g n s rs).answer ≡ More → ⊥) → o ≡ going g n s rs
  unfolding Rest Ends
  repeated_same {s = s} {rs = rs} (once budget is ends) n k = is ∙ same_end budget n s rs (λ x. ends (ap (λ (o : Outcome). o.answer) is ∙ x)) k
  repeated_same {s = s} {rs = rs} (again budget first rest is more r join) n k =
      let left : Rest budget n s rs = split budget n s rs (sym (ap (λ (o : Outcome). o.answer) is) ∙ more) k in
      let e : going g n s rs ≡ joined first (going g left.0 first.search_after first.records) =
      subst (λ (x : Outcome). going g n s rs ≡ joined x (going g left.0 x.search_after x.records)) (sym is) left.1 in
      join ∙ ap (joined first) (repeated_same r left.0 (λ x. k (ap (λ (o : Outcome). o.answer) e ∙ x))) ∙ sym e

-- Over a table in order no advance to the end answers more.
never_more :
    (g : Guided)
    → SoundGuided g
    → (s : Search) (opened nears : ℕ) (t : List Node)
    → InOrder s opened nears t
    → length t ≡ g.floor.size
    → (going g end_budget s (records t)).answer ≡ More
    → ⊥
never_more g sound s opened nears t h sized =
    let few : g.floor.size * (limit + 1) ≤ 4096 * (limit + 1) = mul-le-mul_right (limit + 1) sound.floor.limits.few_places in
    ending.ends g end_budget s (records t) sound (record { sized = length-map t (λ (n : Node). n.kept) ∙ sized; limits = h.limits }) (omega (arith, end_budget_is))

-- What an advance to the end comes to: it does not answer more, and is the same as advances repeated after more.
pub to_the_end :
    (g : Guided)
    → SoundGuided g
    → {s : Search} {opened nears budget : ℕ} {t : List Node} {r : Stopped} {t' : List Node}
    → InOrder s opened nears t
    → length t ≡ g.floor.size
    → budget ≡ end_budget
    → TurnsOrdered g s budget t r t'
    → (answer_of r.ending ≡ More → ⊥) × SameAsRepeated g s (records t)
to_the_end g sound {s = s} {opened = opened} {nears = nears} {t = t} h sized enough done = (
  λ e. never_more g sound s opened nears t h sized (sym (ap (λ n. (going g n s (records t)).answer) enough) ∙ sym (ap (λ (a : AdvanceReport). a.answer) done.said) ∙ e),
  λ o r. repeated_same g r end_budget (never_more g sound s opened nears t h sized),
)
