-- The definition step by step, for code that follows it.
use Rattle.std.proofs.Common.{◌≡◌, ℕ, zero, suc, true, false, List, length, set, Some, None, sym, refl, ap, ◌∙◌, ⊎_elim, arith}
use Rattle.floors.specs.declared.leg.Leg.{Leg}
use Rattle.floors.specs.Guided.{Guided, SoundGuided}
use Rattle.search_model.specs.declared.records.Record.{Record}
use Rattle.search_model.specs.declared.search.Search.{Search}
use Rattle.search_model.specs.Records.{at, f, Seen}
use Rattle.search_model.specs.Choice.{low_place, choice}
use Rattle.search_model.specs.Expansion.{takes, offer, along, spread, expanded, counted}
use Rattle.search_model.specs.Advance.{Barren, Settled, More, low_mark, nothing, goal, other, turn, turn_at, stop, after, going}
use Rattle.search_model.proofs.Labels.{offered_label, given_record, Given}
use Rattle.search_model.proofs.Rules.{Kept, kept_by_labels, spread_rule}

-- One leg.
module _ (g : Guided) (n k : ℕ) (t : List Record) where
  pub along_barred : g.floor.leg n k ≡ None → along g n k t ≡ t
  along_barred e = rw (e, along)

  pub along_passed : (l : Leg) → g.floor.leg n k ≡ Some l → takes (offered_label t n l) (at t l.target) ≡ false → along g n k t ≡ t
  along_passed l e h = rw (e, along) (rw (h, offer))

  pub along_given :
      (l : Leg)
      → g.floor.leg n k ≡ Some l
      → takes (offered_label t n l) (at t l.target) ≡ true
      → along g n k t ≡ set t l.target (given_record g t n k l)
  along_given l e h = rw (e, along) (rw (h, offer))

-- While its legs are taken a place keeps its record, so its label can be read once.
module _ (g : Guided) (sound : SoundGuided g) (n : ℕ) (t : List Record) (seen : Seen t n) where
  record Own (u : List Record) : Type 0 where
    sized : length u ≡ g.floor.size
    same : at u n ≡ at t n

  legs_leave_own : Kept g n (λ k u. Own u)
  legs_leave_own = kept_by_labels g n Own sound (λ u p. p.sized) taken
    where
      taken : (k : ℕ) (u : List Record) (l : Leg) → Given g u n k l → Own u → Own (set u l.target (given_record g u n k l))
      taken k u l h p = record { sized = h.change.sized ∙ p.sized; same = h.change.elsewhere n apart ∙ p.same }
        where
          apart : n ≡ l.target → ⊥
          apart e =
              let mark : (at u l.target).mark ≡ (at t n).mark = ap (λ q. (at u q).mark) (sym e) ∙ ap (λ (r : Record). r.mark) p.same in
              let label : (at u l.target).label ≡ (at u n).label = ap (λ q. (at u q).label) (sym e) in
              ⊎_elim (λ z. omega arith) (λ z. omega arith) h.reason

  pub spread_own : length t ≡ g.floor.size → (k : ℕ) → at (spread g n k t) n ≡ at t n
  spread_own sized k = (spread_rule g n (λ k u. Own u) legs_leave_own t (record { sized = sized; same = refl }) k).same

-- One turn of an advance.
module _ (g : Guided) (s : Search) (t : List Record) where
  pub low_mark_is : (l : ℕ) → low_place t ≡ Some l → low_mark t ≡ Some (f (at t l))
  low_mark_is l e = rw (e, low_mark)

  turn_nothing : low_place t ≡ None → turn g s t ≡ nothing
  turn_nothing e = let none : low_mark t ≡ None = rw (e, low_mark) in rw (none, turn)

  turn_chosen : (l n : ℕ) → low_place t ≡ Some l → choice s (f (at t l)) t ≡ Some n → turn g s t ≡ turn_at g (Some n)
  turn_chosen l n e c = rw (low_mark_is l e, turn) (ap (turn_at g) c)

  pub going_barren : (budget : ℕ) → low_place t ≡ None → going g budget s t ≡ stop Barren s t
  going_barren zero e = rw (turn_nothing e, going)
  going_barren (suc budget) e = rw (turn_nothing e, going)

  module _ (l n : ℕ) (low : low_place t ≡ Some l) (chosen : choice s (f (at t l)) t ≡ Some n) where
    turn_goal : g.floor.goal n ≡ true → turn g s t ≡ goal n
    turn_goal e = turn_chosen l n low chosen ∙ rw (e, turn_at)

    turn_other : g.floor.goal n ≡ false → turn g s t ≡ other n
    turn_other e = turn_chosen l n low chosen ∙ rw (e, turn_at)

    pub going_settled : (budget : ℕ) → g.floor.goal n ≡ true → going g budget s t ≡ stop (Settled n) s t
    going_settled zero e = rw (turn_goal e, going)
    going_settled (suc budget) e = rw (turn_goal e, going)

    pub going_more : g.floor.goal n ≡ false → going g 0 s t ≡ stop More s t
    going_more e = rw (turn_other e, going)

    pub going_expands : (budget : ℕ) → g.floor.goal n ≡ false → going g (suc budget) s t ≡ after n (going g budget (counted s) (expanded g n t))
    going_expands budget e = rw (turn_other e, going)
