-- On every route there is an open place that the search has reached as cheaply as the route does.
use Rattle.std.proofs.Common.{◌≡◌, ℕ, ◌+◌, ◌*◌, ◌<◌, ◌≤◌, List, [], ◌∷◌, length, Some, refl, ap, ◌∙◌, subst, ⊎_elim, mul-le-mul_left, arith}
use Rattle.std.proofs.lemmas.Bool.{cases_eq, both_ways}
use Rattle.floors.specs.Meaning.{Meaning}
use Rattle.floors.specs.Route.{Route, ToGoal, last, alone, onward}
use Rattle.floors.specs.Guided.{Guided, SoundGuided}
use Rattle.search_model.specs.declared.records.Record.{Record}
use Rattle.search_model.specs.declared.search.Search.{Search}
use Rattle.search_model.specs.Records.{at, f, Seen, Open, Closed}
use Rattle.search_model.specs.Advance.{low_mark}
use Rattle.search_model.specs.Costs.{Bounded}
use Rattle.search_model.proofs.Table.{seen_on}
use Rattle.search_model.proofs.Chosen.{low_mark_some, Picked, Chosen, picked_chosen}
use Rattle.search_model.proofs.Invariant.{Relaxed, Estimates, Inv}
use Rattle.search_model.proofs.Reached.{Reached}

-- An open place from which a route goes to z, for which label and route come to no more than the total.
pub record Frontier (m : Meaning) (t : List Record) (z total : ℕ) : Type 0 where
  pub place : ℕ
  pub rest : List ℕ
  pub cost : ℕ
  pub opened : Open t place
  pub route : Route m place rest cost
  pub ends : last place rest ≡ z
  pub cheap : (at t place).label + cost ≤ total

module _ (g : Guided) (sound : SoundGuided g) (start : ℕ) (t : List Record) (h : Inv g start t g.floor.size 0) where
  -- From any seen place, for a route to a place that is not closed at or below the total.
  pub frontier :
      (p : ℕ) (qs : List ℕ) (c d total : ℕ)
      → Seen t p
      → (at t p).label ≤ d
      → d + c ≤ total
      → Route g.floor p qs c
      → (Closed t (last p qs) → (at t (last p qs)).label ≤ total → ⊥)
      → Frontier g.floor t (last p qs) total
  frontier p [] c d total s b enough (alone on free) stop = ⊎_elim (λ o. here o) (λ n. absurd (stop (omega (arith, h.marks p)) (omega arith))) (cases_eq (at t p).mark 1)
    where
      here : Open t p → Frontier g.floor t p total
      here o = record { place = p; rest = []; cost = c; opened = o; route = alone on free; ends = refl; cheap = omega arith }
  frontier p (q ∷ qs) c d total s b enough (onward k l e usable to route cost) stop =
      ⊎_elim here (λ n. beyond (omega (arith, h.marks p)) (λ x y. frontier q qs e (d + l.cost) total x y (omega arith) route stop)) (cases_eq (at t p).mark 1)
    where
      here : Open t p → Frontier g.floor t (last q qs) total
      here o =
          record { place = p; rest = q ∷ qs; cost = c; opened = o; route = onward k l e usable to route cost; ends = refl; cheap = omega arith }

      beyond :
          Closed t p
          → (Seen t q → (at t q).label ≤ d + l.cost → Frontier g.floor t (last q qs) total)
          → Frontier g.floor t (last q qs) total
      beyond cl more =
          let on : p < length t = seen_on t p s in
          let r : Relaxed t p l = h.relaxed p k l cl usable (λ x. absurd (omega (arith, h.sized))) in
          let low : (at t l.target).label ≤ d + l.cost = omega (arith, r.label) in
          more (subst (Seen t) to r.seen) (subst (λ x. (at t x).label ≤ d + l.cost) to low)

  -- For a route from the start to a goal.
  pub goal_frontier : (c : ℕ) → (r : ToGoal g.floor start c) → Frontier g.floor t (last start r.places) c
  goal_frontier c r =
      frontier
      start
      r.places
      c
      0
      c
      h.start_seen
      (omega (arith, h.start_label))
      (omega arith)
      r.route
      (λ cl _. both_ways (g.floor.goal (last start r.places)) (h.no_goals (last start r.places) cl) r.ends)

  -- With nothing open no goal can be reached.
  pub barren_no_route : ((p : ℕ) → Open t p → ⊥) → (c : ℕ) → ToGoal g.floor start c → ⊥
  barren_no_route none c r = let x = goal_frontier c r in none x.place x.opened

  -- The low mark is at most the cost of every route to a goal.
  pub low_mark_below : (mark : ℕ) → low_mark t ≡ Some mark → (c : ℕ) → ToGoal g.floor start c → mark ≤ c
  low_mark_below mark e c r =
      let x : Frontier g.floor t (last start r.places) c = goal_frontier c r in
      let kept : (at t x.place).low ≡ g.floor.low x.place = (h.estimates x.place (omega (arith, x.opened))).low in
      let rest : g.floor.low x.place ≤ x.cost =
      sound.floor.admissible x.place x.cost (record { places = x.rest; route = x.route; ends = ap g.floor.goal x.ends ∙ r.ends }) in
      omega (arith, (low_mark_some t mark e).least_f x.place x.opened, x.cheap)

  -- A chosen place has its label within the bound, whatever way it was chosen.
  pub chosen_bounded :
      (s : Search) (mark n : ℕ)
      → Chosen s t mark n
      → ((c : ℕ) → ToGoal g.floor start c → mark ≤ c)
      → Bounded g.floor start s.bound (at t n).label
  chosen_bounded s mark n ch below c r =
      let one : s.bound.b * (at t n).label ≤ s.bound.b * f (at t n) = mul-le-mul_left s.bound.b (omega arith) in
      let two : s.bound.a * mark ≤ s.bound.a * c = mul-le-mul_left s.bound.a (below c r) in
      omega (arith, ch.bounded)

-- The place that a turn picks is chosen.
pub reached_chosen : (g : Guided) (s : Search) (t : List Record) (n : ℕ) {b : _} → Reached g s t → (h : Picked g s t n b) → Chosen s t h.mark n
reached_chosen g s t n {b} r h =
    let e : Estimates g n (at t n) = r.invariant.estimates n (omega (arith, h.opened)) in
    picked_chosen g s t n b h r.bound.ordered (omega (arith, e.low, e.hope))
