-- The states that a search reaches from its begin.
use Rattle.std.proofs.Common.{◌≡◌, ℕ, suc, ◌+◌, ◌*◌, ◌<◌, ◌≤◌, min, ◌⊎◌, List, set, replicate, Some, sym, refl, ap, ◌∙◌, subst, inl, inr, ⊎_elim, le_refl, mul-le-mul_left, arith}
use Rattle.floors.specs.declared.leg.Leg.{Leg}
use Rattle.floors.specs.Guided.{Guided, SoundGuided}
use Rattle.search_model.specs.declared.bound.Bound.{Bound}
use Rattle.search_model.specs.declared.records.Record.{Record}
use Rattle.search_model.specs.declared.search.Search.{Search}
use Rattle.search_model.specs.Records.{blank, at, Seen, Closed}
use Rattle.search_model.specs.Expansion.{labelled, closed, expanded, greatest_total}
use Rattle.search_model.specs.Advance.{going}
use Rattle.search_model.specs.Begin.{first_records, first_search, rebounded}
use Rattle.search_model.specs.Ending.{weight, potential}
use Rattle.search_model.specs.Costs.{greatest_cost, greatest_label, most_expansions, ValidBound}
use Rattle.search_model.proofs.Table.{Changed, changed_at, blank_at, begun, begun_keeps, begun_sized}
use Rattle.search_model.proofs.Labels.{Given, given_label, given_record, offered_label, closing}
use Rattle.search_model.proofs.Potential.{potential_below, given_potential, closed_potential}
use Rattle.search_model.proofs.Rules.{Kept, spread_rule, Ended, KeptByExpansion, going_rule}
use Rattle.search_model.proofs.Costs.{most_expansions_below}
use Rattle.search_model.proofs.Invariant.{seen_one, seen_count, root, Estimates, Inv, fresh_small, barred_step, passed_step, finished}
use Rattle.search_model.proofs.Steps.{given_step, closing_step, closing_seen, still_seen}

-- The potential where an unseen place weighs more than any label that the search gives.
abbrev pub remaining : Guided → List Record → ℕ
remaining g t = potential (greatest_label g.floor + 1) t

-- The invariant holds, and the expansions so far and those that remain possible come to no more than the most expansions.
pub record Reached (g : Guided) (s : Search) (t : List Record) : Type 0 where
  pub invariant : Inv g s.start t g.floor.size 0
  pub size : s.size ≡ g.floor.size
  pub bound : ValidBound s.bound
  pub spent : s.total + remaining g t ≤ most_expansions g.floor

-- A state reached from the search s₀ by k expansions.
pub record ReachedFrom (g : Guided) (s₀ : Search) (k : ℕ) (s : Search) (t : List Record) : Type 0 where
  pub reached : Reached g s t
  pub start : s.start ≡ s₀.start
  pub bound : s.bound ≡ s₀.bound
  pub total : s.total ≡ s₀.total + k

module _ (g : Guided) (sound : SoundGuided g) where
  -- An expansion of n under way: the legs below k have been taken, and the potential is at most x.
  record UnderWay (start n x : ℕ) (k : ℕ) (t : List Record) : Type 0 where
    invariant : Inv g start t n k
    seen : Seen t n
    below : remaining g t ≤ x

  legs_keep : (start n x : ℕ) → Kept g n (UnderWay start n x)
  legs_keep start n x =
      record {
        barred = λ k t e p. record { invariant = barred_step g sound start t n k e p.invariant; seen = p.seen; below = p.below };
        passed = λ k t l e h p. record { invariant = passed_step g sound start t n k l e h p.seen p.invariant; seen = p.seen; below = p.below };
        given = λ k t l e h p. taken k t l e (given_label g t n k l sound p.invariant.sized e h) p;
      }
    where
      taken :
          (k : ℕ) (t : List Record) (l : Leg)
          → g.floor.leg n k ≡ Some l
          → Given g t n k l
          → UnderWay start n x k t
          → UnderWay start n x (suc k) (set t l.target (given_record g t n k l))
      taken k t l e h p =
          let u : List Record = set t l.target (given_record g t n k l) in
          let small : (at t l.target).mark ≡ 0 → offered_label t n l < greatest_label g.floor + 1 =
          λ z. omega (arith, fresh_small g sound start t n k l p.invariant p.seen e z) in
          let lower : remaining g (set t l.target (given_record g t n k l)) ≤ remaining g t =
          given_potential (greatest_label g.floor + 1) h.change refl small h.reason in
          record {
            invariant = given_step g sound start t n k l e p.invariant p.seen u h.change h.reason;
            seen = still_seen g sound start t n k l e p.invariant p.seen u h.change h.reason n p.seen;
            below = omega (arith, p.below);
          }

  pub expansion_reaches : (s₀ : Search) → KeptByExpansion g (ReachedFrom g s₀)
  expansion_reaches s₀ k s t n h p =
      let u : List Record = set t n (closed (at t n)) in
      let c : Changed t n (closed (at t n)) u = closing t n h.opened in
      let one : remaining g (set t n (closed (at t n))) + 1 ≡ remaining g t =
      closed_potential (greatest_label g.floor + 1) c h.opened in
      let all : UnderWay s.start n (remaining g u) (g.floor.count n) (expanded g n t) =
      spread_rule
      g
      n
      (UnderWay s.start n (remaining g u))
      (legs_keep s.start n (remaining g u))
      u
      (record {
        invariant = closing_step g sound s.start t n p.reached.invariant h.opened h.at_goal u c;
        seen = closing_seen g sound s.start t n p.reached.invariant h.opened h.at_goal u c;
        below = le_refl (remaining g u);
      })
      (g.floor.count n) in
      let lower : remaining g (expanded g n t) ≤ remaining g (set t n (closed (at t n))) = all.below in
      let room : s.total + 1 + remaining g (expanded g n t) ≤ most_expansions g.floor = omega (arith, p.reached.spent) in
      let exact : min (s.total + 1) greatest_total ≡ s.total + 1 = omega (arith, most_expansions_below g.floor sound.floor) in
      record {
        reached =
            record {
              invariant = finished g sound s.start (expanded g n t) n all.invariant;
              size = p.reached.size;
              bound = p.reached.bound;
              spent = subst (λ x. x + remaining g (expanded g n t) ≤ most_expansions g.floor) (sym exact) room;
            };
        start = p.start;
        bound = p.bound;
        total = omega (arith, exact, p.total);
      }

  -- An advance of any budget reaches.
  pub advance_reaches : (budget : ℕ) (s : Search) (t : List Record) → Reached g s t → Ended g (ReachedFrom g s) 0 budget (going g budget s t)
  advance_reaches budget s t h =
      going_rule g (ReachedFrom g s) (expansion_reaches s) budget 0 s t (record { reached = h; start = refl; bound = refl; total = omega arith })

  -- Another valid bound reaches.
  pub rebound_reaches : (s : Search) (t : List Record) (bound : Bound) → ValidBound bound → Reached g s t → Reached g (rebounded bound s) t
  rebound_reaches s t bound v h = record { invariant = h.invariant; size = h.size; bound = v; spent = h.spent }

-- Where a search begins.
module _ (g : Guided) (sound : SoundGuided g) (start : ℕ) (on : start < g.floor.size) where
  -- A place is the start, or its record is blank.
  begun_at : (p : ℕ) → ((p ≡ start) × (at (first_records g start) p ≡ labelled g start 0 start 0)) ⊎ (at (first_records g start) p ≡ blank)
  begun_at p = ⊎_elim (λ x. inl x) (λ x. inr (x.1 ∙ blank_at g.floor.size p)) (changed_at (begun g start on) p)

  begun_seen : (p : ℕ) → Seen (first_records g start) p → (p ≡ start) × (at (first_records g start) p ≡ labelled g start 0 start 0)
  begun_seen p s = ⊎_elim (λ x. x) (λ x. unseen (ap (λ (r : Record). r.mark) x)) (begun_at p)
    where
      unseen : (at (first_records g start) p).mark ≡ 0 → (p ≡ start) × (at (first_records g start) p ≡ labelled g start 0 start 0)
      unseen z = absurd (omega arith)

  never_closed : (p : ℕ) → Closed (first_records g start) p → ⊥
  never_closed p c =
      let one : (at (first_records g start) p).mark ≡ 1 = ap (λ (r : Record). r.mark) (begun_seen p (omega arith)).1 in
      omega arith

  one_seen : 1 ≤ seen_count (first_records g start)
  unfolding seen_count seen_one
  one_seen =
      let none : (at (replicate g.floor.size blank) start).mark ≡ 0 = ap (λ (r : Record). r.mark) (blank_at g.floor.size start) in
      let sums : seen_count (first_records g start) + min (at (replicate g.floor.size blank) start).mark 1 ≡ seen_count (replicate g.floor.size blank) + 1 = (begun g start on).sums seen_one in
      omega arith

  begun_remaining : remaining g (first_records g start) ≤ most_expansions g.floor
  begun_remaining =
      subst
      (λ n. remaining g (first_records g start) ≤ n * (greatest_label g.floor + 1))
      (begun_sized g start on)
      (potential_below
      (greatest_label g.floor + 1)
      (first_records g start)
      (begun_keeps
      g
      start
      on
      (λ r. weight (greatest_label g.floor + 1) r ≤ greatest_label g.floor + 1)
      (omega arith)
      (le_refl (greatest_label g.floor + 1))))

  -- A begin with a valid bound reaches.
  pub begin_reaches : (bound : Bound) → ValidBound bound → Reached g (first_search g start bound) (first_records g start)
  begin_reaches bound v =
      record {
        invariant =
            record {
              sized = begun_sized g start on;
              start_seen = subst (λ (r : Record). 1 ≤ r.mark) (sym (begun g start on).here) (omega arith);
              start_label = ap (λ (r : Record). r.label) (begun g start on).here;
              marks = begun_keeps g start on (λ r. r.mark ≤ 2) (omega arith) (omega arith);
              labels =
                  λ p s.
                  let zero_label : (at (first_records g start) p).label ≡ 0 = ap (λ (r : Record). r.label) (begun_seen p s).1 in
                  let one : greatest_cost g.floor * 1 ≤ greatest_cost g.floor * seen_count (first_records g start) =
                  mul-le-mul_left (greatest_cost g.floor) one_seen in
                  omega arith;
              chains = λ p s. root (begun_seen p s).0;
              relaxed = λ p j l c e guard. absurd (never_closed p c);
              no_goals = λ p c. absurd (never_closed p c);
              estimates =
                  λ p s.
                  subst
                  (Estimates g p)
                  (sym (begun_seen p s).1)
                  (subst (λ q. Estimates g q (labelled g start 0 start 0)) (sym (begun_seen p s).0) (record { low = refl; hope = refl; steps = refl }));
            };
        size = refl;
        bound = v;
        spent = omega (arith, begun_remaining);
      }
