-- What holds of the records of a search at every leg that it takes.
use Rattle.std.proofs.Common.{◌≡◌, ℕ, suc, ◌+◌, ◌*◌, ◌<◌, ◌≤◌, min, max, false, List, length, set, Some, None, sum_by, sym, ap, ◌∙◌, subst, ⊎_elim, mul-le-mul_left, mul-suc, arith}
use Rattle.std.proofs.ByRecursion.{All-from_get_or, sum_by_le}
use Rattle.std.proofs.lemmas.Bool.{cases_eq, cases_lt}
use Rattle.floors.specs.declared.leg.Leg.{Leg}
use Rattle.floors.specs.Meaning.{Meaning}
use Rattle.floors.specs.Guided.{Guided, SoundGuided}
use Rattle.floors.specs.Sound.{limit}
use Rattle.search_model.specs.declared.records.Record.{Record}
use Rattle.search_model.specs.Records.{blank, at, Seen, Closed}
use Rattle.search_model.specs.Expansion.{takes}
use Rattle.search_model.specs.Costs.{greatest_cost, greatest_label}
use Rattle.search_model.proofs.Table.{Changed, changed}
use Rattle.search_model.proofs.Labels.{takes_false, given_record, offered_label}
use Rattle.search_model.proofs.Costs.{leg_number, cost_below, greatest_label_and, greatest_label_below}

-- How many places are seen.
unfoldable pub seen_one : Record → ℕ
seen_one r = min r.mark 1

unfoldable pub seen_count : List Record → ℕ
seen_count t = sum_by seen_one t

pub seen_count_below : (t : List Record) → seen_count t ≤ length t
unfolding seen_count seen_one
seen_count_below t =
    let h : sum_by seen_one t ≤ length t * 1 = sum_by_le seen_one 1 t (All-from_get_or (λ r. seen_one r ≤ 1) t blank (λ i l. omega arith)) in
    omega arith

-- Parents lead from p to the start: each is seen, its named leg is usable and leads to the child, and the leg's cost
-- and the parent's label come to no more than the child's label.
pub data Chain (m : Meaning) (start : ℕ) (t : List Record) : ℕ → Type 0 where
  root : {p : ℕ} → p ≡ start → Chain m start t p
  link :
      {p q : ℕ} (l : Leg)
      → (at t p).parent ≡ q
      → Seen t q
      → m.leg q (at t p).leg ≡ Some l
      → l.target ≡ p
      → (at t q).label + l.cost ≤ (at t p).label
      → Chain m start t q
      → Chain m start t p

-- The target of a usable leg from p has a label of at most p's and the leg's cost.
pub record Relaxed (t : List Record) (p : ℕ) (l : Leg) : Type 0 where
  pub seen : Seen t l.target
  pub label : (at t l.target).label ≤ (at t p).label + l.cost

-- So it is at closed places; at n only for the legs below k, as n is being expanded.
abbrev pub AllRelaxed : Meaning → List Record → ℕ → ℕ → Type 0
AllRelaxed m t n k = (p j : ℕ) (l : Leg) → Closed t p → m.leg p j ≡ Some l → (p ≡ n → j < k) → Relaxed t p l

-- The kept estimates are the floor's, and the kept hope is the greater of low and hope.
pub record Estimates (g : Guided) (p : ℕ) (r : Record) : Type 0 where
  pub low : r.low ≡ g.floor.low p
  pub hope : r.hope ≡ max (g.floor.low p) (g.hope p)
  pub steps : r.steps ≡ g.steps p

-- The invariant, where the legs of n below k have been taken.
pub record Inv (g : Guided) (start : ℕ) (t : List Record) (n k : ℕ) : Type 0 where
  pub sized : length t ≡ g.floor.size
  pub start_seen : Seen t start
  pub start_label : (at t start).label ≡ 0
  pub marks : (p : ℕ) → (at t p).mark ≤ 2
  pub labels : (p : ℕ) → Seen t p → (at t p).label + greatest_cost g.floor ≤ greatest_cost g.floor * seen_count t
  pub chains : (p : ℕ) → Seen t p → Chain g.floor start t p
  pub relaxed : AllRelaxed g.floor t n k
  pub no_goals : (p : ℕ) → Closed t p → g.floor.goal p ≡ false
  pub estimates : (p : ℕ) → Seen t p → Estimates g p (at t p)

module _ (g : Guided) (sound : SoundGuided g) (start : ℕ) where
  -- A label is at most the greatest.
  pub label_below : (t : List Record) (n k p : ℕ) → Inv g start t n k → Seen t p → (at t p).label ≤ greatest_label g.floor
  label_below t n k p h s =
      let few : seen_count t ≤ g.floor.size = subst (λ x. seen_count t ≤ x) h.sized (seen_count_below t) in
      let more : greatest_cost g.floor * seen_count t ≤ greatest_cost g.floor * g.floor.size = mul-le-mul_left (greatest_cost g.floor) few in
      omega (arith, h.labels p s, greatest_label_and g.floor sound.floor)

  -- One more leg taken.
  pub relaxed_more :
      (t : List Record) (n k : ℕ)
      → AllRelaxed g.floor t n k
      → ((l : Leg) → g.floor.leg n k ≡ Some l → Relaxed t n l)
      → AllRelaxed g.floor t n (suc k)
  relaxed_more t n k h now p j l c e guard = ⊎_elim at_n (λ ne. h p j l c e (λ x. absurd (ne x))) (cases_eq p n)
    where
      at_n : p ≡ n → Relaxed t p l
      at_n x = ⊎_elim (λ b. h p j l c e (λ _. b)) (λ b. last_one b) (cases_lt j k)
        where
          last_one : k ≤ j → Relaxed t p l
          last_one b =
              let same : j ≡ k = omega (arith, guard x) in
              subst (λ y. Relaxed t y l) (sym x) (now l (ap (λ y. g.floor.leg y k) (sym x) ∙ ap (λ y. g.floor.leg p y) (sym same) ∙ e))

  with_relaxed : (t : List Record) (n k i j : ℕ) → Inv g start t n k → AllRelaxed g.floor t i j → Inv g start t i j
  with_relaxed t n k i j h r =
      record {
        sized = h.sized;
        start_seen = h.start_seen;
        start_label = h.start_label;
        marks = h.marks;
        labels = h.labels;
        chains = h.chains;
        relaxed = r;
        no_goals = h.no_goals;
        estimates = h.estimates;
      }

  pub barred_step : (t : List Record) (n k : ℕ) → g.floor.leg n k ≡ None → Inv g start t n k → Inv g start t n (suc k)
  barred_step t n k e h = with_relaxed t n k n (suc k) h (relaxed_more t n k h.relaxed (λ l x. never l x))
    where
      never : (l : Leg) → g.floor.leg n k ≡ Some l → Relaxed t n l
      never l x = let z : ◌≡◌ {A = ℕ} 0 1 = cc in absurd (omega arith)

  -- Where a place is unseen there is room for one more, so the label offered to it is at most the greatest.
  pub fresh_room :
      (t : List Record) (n k : ℕ) (l : Leg)
      → Inv g start t n k
      → Seen t n
      → g.floor.leg n k ≡ Some l
      → (at t l.target).mark ≡ 0
      → (offered_label t n l + greatest_cost g.floor ≤ greatest_cost g.floor * suc (seen_count t)) × (suc (seen_count t) ≤ g.floor.size)
  unfolding seen_count seen_one
  fresh_room t n k l h s e z =
      let on : l.target < length t = subst (λ x. l.target < x) (sym h.sized) (sound.floor.limits.targets n k l e) in
      let c : Changed t l.target (given_record g t n k l) (set t l.target (given_record g t n k l)) = changed t l.target (given_record g t n k l) on in
      let more : seen_count (set t l.target (given_record g t n k l)) + min (at t l.target).mark 1 ≡ seen_count t + 1 = c.sums seen_one in
      let few : seen_count (set t l.target (given_record g t n k l)) ≤ length (set t l.target (given_record g t n k l)) =
      seen_count_below (set t l.target (given_record g t n k l)) in (
        omega (arith, h.labels n s, cost_below g.floor sound.floor n k l e, mul-suc (greatest_cost g.floor) (seen_count t)),
        omega (arith, c.sized, h.sized),
      )

  pub fresh_small :
      (t : List Record) (n k : ℕ) (l : Leg)
      → Inv g start t n k
      → Seen t n
      → g.floor.leg n k ≡ Some l
      → (at t l.target).mark ≡ 0
      → offered_label t n l ≤ greatest_label g.floor
  fresh_small t n k l h s e z =
      let room : (offered_label t n l + greatest_cost g.floor ≤ greatest_cost g.floor * suc (seen_count t)) × (suc (seen_count t) ≤ g.floor.size) =
      fresh_room t n k l h s e z in
      let more : greatest_cost g.floor * suc (seen_count t) ≤ greatest_cost g.floor * g.floor.size =
      mul-le-mul_left (greatest_cost g.floor) room.1 in
      omega (arith, room.0, greatest_label_and g.floor sound.floor)

  -- A label that is not taken: its target has one that is as low, since no label of the search is above the limit.
  pub passed_step :
      (t : List Record) (n k : ℕ) (l : Leg)
      → g.floor.leg n k ≡ Some l
      → takes (offered_label t n l) (at t l.target) ≡ false
      → Seen t n
      → Inv g start t n k
      → Inv g start t n (suc k)
  passed_step t n k l e f s h = with_relaxed t n k n (suc k) h (relaxed_more t n k h.relaxed (λ l' x. subst (Relaxed t n) (same l' x) here))
    where
      same : (l' : Leg) → g.floor.leg n k ≡ Some l' → l ≡ l'
      same l' x = cc

      above : limit < offered_label t n l → Relaxed t n l
      above b =
          ⊎_elim
          (λ z. absurd (omega (arith, fresh_small t n k l h s e z, greatest_label_below g.floor sound.floor)))
          (λ nz.
          let seen : Seen t l.target = omega arith in
          record { seen = seen; label = omega (arith, label_below t n k l.target h seen, greatest_label_below g.floor sound.floor) })
          (cases_eq (at t l.target).mark 0)

      here : Relaxed t n l
      here = ⊎_elim above (λ x. record { seen = x.0; label = x.1 }) (takes_false (offered_label t n l) (at t l.target) f)

  -- The expansion is over when all legs have been taken.
  pub finished : (t : List Record) (n : ℕ) → Inv g start t n (g.floor.count n) → Inv g start t g.floor.size 0
  finished t n h =
      with_relaxed
      t
      n
      (g.floor.count n)
      g.floor.size
      0
      h
      (λ p j l c e guard. h.relaxed p j l c e (λ x. subst (λ y. j < g.floor.count y) x (leg_number g.floor sound.floor p j l e)))
