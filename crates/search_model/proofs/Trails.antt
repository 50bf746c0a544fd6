-- What is read from records is a route, and over the records of a search something is read.
use Rattle.std.proofs.Common.{◌≡◌, ℕ, zero, suc, ◌+◌, ◌-◌, ◌<◌, ◌≤◌, Bool, true, false, eqb, List, [], ◌∷◌, ◌++◌, length, Some, None, Option, sym, refl, ap, ◌∙◌, subst, suc-add, zero-add, arith, length-append}
use Rattle.std.proofs.lemmas.Bool.{eqb-true, eqb-false}
use Rattle.floors.specs.declared.leg.Leg.{Leg}
use Rattle.floors.specs.Meaning.{Meaning}
use Rattle.floors.specs.Route.{Route, last, alone, onward}
use Rattle.floors.specs.Sound.{Sound}
use Rattle.search_model.specs.declared.records.Record.{Record}
use Rattle.search_model.specs.Records.{at}
use Rattle.search_model.specs.Read.{Trail, extended, follow}
use Rattle.search_model.proofs.Costs.{leg_place}
use Rattle.search_model.proofs.Counts.{sum_below, sum_strict, sum_few}
use Rattle.search_model.proofs.Invariant.{Chain, root, link}

-- A route with one more leg at its end.
route_snoc :
    (m : Meaning) (p : ℕ) (qs : List ℕ) (c q k : ℕ) (l : Leg)
    → Route m p qs c
    → m.leg (last p qs) k ≡ Some l
    → l.target ≡ q
    → q < m.size
    → Route m p (qs ++ (q ∷ [])) (c + l.cost) × (last p (qs ++ (q ∷ [])) ≡ q)
route_snoc m p [] c q k l (alone on free) usable to q-on = (onward k l 0 usable to (alone q-on refl) (omega arith), refl)
route_snoc m p (r ∷ rs) c q k l (onward j d e first step route cost) usable to q-on =
    let more : Route m r (rs ++ (q ∷ [])) (e + l.cost) × (last r (rs ++ (q ∷ [])) ≡ q) = route_snoc m r rs e q k l route usable to q-on in
    (onward j d (e + l.cost) first step more.0 (omega arith), more.1)

-- A trail to p of at most n places.
pub record TrailTo (m : Meaning) (start p n : ℕ) (w : Trail) : Type 0 where
  pub rest : List ℕ
  pub places : w.places ≡ start ∷ rest
  pub route : Route m start rest w.cost
  pub ends : last start rest ≡ p
  pub few : length w.places ≤ n

-- What is read of a place on a chain, within as many places as there are.
pub record Readable (m : Meaning) (start : ℕ) (t : List Record) (p : ℕ) : Type 0 where
  pub trail : Trail
  pub is : follow m start t m.size p ≡ Some trail
  pub to : TrailTo m start p m.size trail
  pub cheap : trail.cost ≤ (at t p).label

-- What is read, if anything, is a trail.
abbrev Says : Meaning → ℕ → ℕ → ℕ → Option Trail → Type 0
Says m start p n None = Unit {0}
Says m start p n (Some w) = TrailTo m start p n w

-- One step back from a place, test by test.
module _ (m : Meaning) (start : ℕ) (t : List Record) where
  pub follow_arrives : (n p : ℕ) → eqb p start ≡ true → follow m start t (suc n) p ≡ Some (record { places = p ∷ []; cost = 0 })
  follow_arrives n p e = rw (e, follow)

  module _ (n p : ℕ) (away : eqb p start ≡ false) where
    pub follow_barred : m.leg (at t p).parent (at t p).leg ≡ None → follow m start t (suc n) p ≡ None
    follow_barred h = rw (away, follow, h)

    pub follow_astray : (l : Leg) → m.leg (at t p).parent (at t p).leg ≡ Some l → eqb l.target p ≡ false → follow m start t (suc n) p ≡ None
    follow_astray l h u = rw (away, follow, h, u)

    pub follow_parent :
        (l : Leg)
        → m.leg (at t p).parent (at t p).leg ≡ Some l
        → eqb l.target p ≡ true
        → follow m start t (suc n) p ≡ extended l.cost p (follow m start t n (at t p).parent)
    follow_parent l h u = rw (away, follow, h, u)

module _ (m : Meaning) (sound : Sound m) (start : ℕ) (on : start < m.size) (t : List Record) where
  -- It arrives at the start, or there is no usable leg from the parent to p, or the trail comes from the parent.
  data Back (p : ℕ) : Type 0 where
    arrives : p ≡ start → ((n : ℕ) → follow m start t (suc n) p ≡ Some (record { places = p ∷ []; cost = 0 })) → Back p
    lost :
        (p ≡ start → ⊥)
        → ((l : Leg) → m.leg (at t p).parent (at t p).leg ≡ Some l → l.target ≡ p → ⊥)
        → ((n : ℕ) → follow m start t (suc n) p ≡ None)
        → Back p
    comes :
        (p ≡ start → ⊥)
        → (l : Leg)
        → m.leg (at t p).parent (at t p).leg ≡ Some l
        → l.target ≡ p
        → ((n : ℕ) → follow m start t (suc n) p ≡ extended l.cost p (follow m start t n (at t p).parent))
        → Back p

  way : (p : ℕ) → Back p
  way p = by_start (eqb p start) refl
    where
      by_target : (l : Leg) → eqb p start ≡ false → m.leg (at t p).parent (at t p).leg ≡ Some l → (b : Bool) → eqb l.target p ≡ b → Back p
      by_target l e h true u = comes (eqb-false p start e) l h (eqb-true l.target p u) (λ n. follow_parent m start t n p e l h u)
      by_target l e h false u =
          lost
          (eqb-false p start e)
          (λ d y z. let same : d ≡ l = cc in eqb-false l.target p u (ap (λ (l : Leg). l.target) (sym same) ∙ z))
          (λ n. follow_astray m start t n p e l h u)

      by_leg : eqb p start ≡ false → (o : Option Leg) → m.leg (at t p).parent (at t p).leg ≡ o → Back p
      by_leg e None h = lost (eqb-false p start e) (λ d y _. let z : ◌≡◌ {A = ℕ} 0 1 = cc in omega arith) (λ n. follow_barred m start t n p e h)
      by_leg e (Some l) h = by_target l e h (eqb l.target p) refl

      by_start : (b : Bool) → eqb p start ≡ b → Back p
      by_start true e = arrives (eqb-true p start e) (λ n. follow_arrives m start t n p e)
      by_start false e = by_leg e (m.leg (at t p).parent (at t p).leg) refl

  -- Whatever is read is a route from the start.
  extended_says : (n p k : ℕ) (l : Leg) (q : ℕ) → m.leg q k ≡ Some l → l.target ≡ p → (x : Option Trail) → Says m start q n x → Says m start p (suc n) (extended l.cost p x)
  extended_says n p k l q usable to None h = tt
  extended_says n p k l q usable to (Some w) h =
      let p_on : p < m.size = subst (λ x. x < m.size) to (sound.limits.targets q k l usable) in
      let more : Route m start (h.rest ++ (p ∷ [])) (w.cost + l.cost) × (last start (h.rest ++ (p ∷ [])) ≡ p) =
      route_snoc m start h.rest w.cost p k l h.route (ap (λ x. m.leg x k) h.ends ∙ usable) to p_on in
      record {
        rest = h.rest ++ (p ∷ []);
        places = ap (λ ps. ps ++ (p ∷ [])) h.places;
        route = more.0;
        ends = more.1;
        few = omega (arith, length-append w.places (p ∷ []), h.few);
      }

  pub follow_says : (n p : ℕ) → Says m start p n (follow m start t n p)
  follow_says zero p = tt
  follow_says (suc n) p = by (way p) (follow_says n (at t p).parent)
    where
      by : Back p → Says m start (at t p).parent n (follow m start t n (at t p).parent) → Says m start p (suc n) (follow m start t (suc n) p)
      by (arrives e is) h =
          subst
          (Says m start p (suc n))
          (sym (is n))
          (record { rest = []; places = ap (λ x. x ∷ []) e; route = alone on refl; ends = sym e; few = omega arith })
      by (lost _ _ is) h = subst (Says m start p (suc n)) (sym (is n)) tt
      by (comes _ l usable to is) h =
          subst
          (Says m start p (suc n))
          (sym (is n))
          (extended_says n p (at t p).leg l (at t p).parent usable to (follow m start t n (at t p).parent) h)

  -- More places change nothing that is read.
  extended_more : (c p : ℕ) (x y : Option Trail) → ((w : Trail) → x ≡ Some w → y ≡ Some w) → (w : Trail) → extended c p x ≡ Some w → extended c p y ≡ Some w
  extended_more c p None y h w e = cc
  extended_more c p (Some v) y h w e = ap (extended c p) (h v refl) ∙ e

  follow_more : (n p : ℕ) (w : Trail) → follow m start t n p ≡ Some w → follow m start t (suc n) p ≡ Some w
  follow_more zero p w e = cc
  follow_more (suc n) p w e = by (way p) (follow_more n (at t p).parent)
    where
      by :
          Back p
          → ((v : Trail) → follow m start t n (at t p).parent ≡ Some v → follow m start t (suc n) (at t p).parent ≡ Some v)
          → follow m start t (suc (suc n)) p ≡ Some w
      by (arrives _ is) h = is (suc n) ∙ sym (is n) ∙ e
      by (lost _ _ is) h = is (suc n) ∙ sym (is n) ∙ e
      by (comes _ l _ _ is) h =
          is (suc n)
          ∙ extended_more
          l.cost
          p
          (follow m start t n (at t p).parent)
          (follow m start t (suc n) (at t p).parent)
          h
          w
          (sym (is n) ∙ e)

  follow_raised : (d n p : ℕ) (w : Trail) → follow m start t n p ≡ Some w → follow m start t (d + n) p ≡ Some w
  follow_raised zero n p w e = subst (λ k. follow m start t k p ≡ Some w) (sym (zero-add n)) e
  follow_raised (suc d) n p w e = subst (λ k. follow m start t k p ≡ Some w) (sym (suc-add d n)) (follow_more (d + n) p w (follow_raised d n p w e))

  -- Each place that is first read within i + 1 places adds to those read within i, so there are i + 1 of them at least.
  abbrev found : Option Trail → ℕ
  found None = 0
  found (Some w) = 1

  abbrev found_within : ℕ → ℕ → ℕ
  found_within n p = found (follow m start t n p)

  found_few : (x : Option Trail) → found x ≤ 1
  found_few None = omega arith
  found_few (Some w) = omega arith

  found_more : (n p : ℕ) → found_within n p ≤ found_within (suc n) p
  found_more n p = by (follow m start t n p) refl
    where
      by : (x : Option Trail) → follow m start t n p ≡ x → found x ≤ found_within (suc n) p
      by None e = omega arith
      by (Some w) e = let one : found_within (suc n) p ≡ 1 = ap found (follow_more n p w e) in omega arith

  extended_some : (c p : ℕ) (x : Option Trail) (w : Trail) → extended c p x ≡ Some w → (v : Trail) × (x ≡ Some v)
  extended_some c p None w e = let z : ◌≡◌ {A = ℕ} 0 1 = cc in absurd (omega arith)
  extended_some c p (Some v) w e = (v, refl)

  extended_none : (c p : ℕ) (x : Option Trail) → extended c p x ≡ None → x ≡ None
  extended_none c p None e = refl
  extended_none c p (Some v) e = cc

  -- It was read one place later than its parent.
  later : (i p : ℕ) (w : Trail) → follow m start t (suc (suc i)) p ≡ Some w → follow m start t (suc i) p ≡ None → (q : ℕ) × (v : Trail) × (q < m.size) × (follow m start t (suc i) q ≡ Some v) × (follow m start t i q ≡ None)
  later i p w e n = by (way p)
    where
      by : Back p → (q : ℕ) × (v : Trail) × (q < m.size) × (follow m start t (suc i) q ≡ Some v) × (follow m start t i q ≡ None)
      by (arrives _ is) = let same = is i in let z : ◌≡◌ {A = ℕ} 0 1 = cc in absurd (omega arith)
      by (lost _ _ is) = let same = is (suc i) in let z : ◌≡◌ {A = ℕ} 0 1 = cc in absurd (omega arith)
      by (comes _ l usable to is) =
          let some : (v : Trail) × (follow m start t (suc i) (at t p).parent ≡ Some v) =
          extended_some l.cost p (follow m start t (suc i) (at t p).parent) w (sym (is (suc i)) ∙ e) in (
            (at t p).parent,
            some.0,
            leg_place m sound (at t p).parent (at t p).leg l usable,
            some.1,
            extended_none l.cost p (follow m start t i (at t p).parent) (sym (is i) ∙ n),
          )

  grown : (i p : ℕ) (w : Trail) → p < m.size → follow m start t (suc i) p ≡ Some w → follow m start t i p ≡ None → sum_below (found_within i) m.size < sum_below (found_within (suc i)) m.size
  grown i p w p_on e n =
      let none : found_within i p ≡ 0 = ap found n in
      let one : found_within (suc i) p ≡ 1 = ap found e in
      sum_strict (found_within i) (found_within (suc i)) m.size p (found_more i) p_on (omega arith)

  many : (i p : ℕ) (w : Trail) → p < m.size → follow m start t (suc i) p ≡ Some w → follow m start t i p ≡ None → i < sum_below (found_within (suc i)) m.size
  many zero p w p_on e n = omega (arith, grown zero p w p_on e n)
  many (suc i) p w p_on e n =
      let parent : (q : ℕ) × (v : Trail) × (q < m.size) × (follow m start t (suc i) q ≡ Some v) × (follow m start t i q ≡ None) = later i p w e n in
      omega (arith, grown (suc i) p w p_on e n, many i parent.0 parent.1 parent.2 parent.3 parent.4)

  -- So what is read at all is read within as many places as there are.
  pub follow_enough : (i p : ℕ) (w : Trail) → p < m.size → follow m start t i p ≡ Some w → follow m start t m.size p ≡ Some w
  follow_enough zero p w p_on e = cc
  follow_enough (suc i) p w p_on e = by (follow m start t i p) refl (λ v. follow_enough i p v p_on)
    where
      by : (x : Option Trail) → follow m start t i p ≡ x → ((v : Trail) → follow m start t i p ≡ Some v → follow m start t m.size p ≡ Some v) → follow m start t m.size p ≡ Some w
      by None n h =
          let few : sum_below (found_within (suc i)) m.size ≤ m.size = sum_few (found_within (suc i)) m.size (λ q. found_few (follow m start t (suc i) q)) in
          let room : m.size - suc i + suc i ≡ m.size = omega (arith, many i p w p_on e n) in
          subst (λ k. follow m start t k p ≡ Some w) room (follow_raised (m.size - suc i) (suc i) p w e)
      by (Some v) n h = h v n ∙ sym (follow_more i p v n) ∙ e

  -- Over a chain something is read, at a cost of at most the label.
  record Followed (p : ℕ) : Type 0 where
    within : ℕ
    trail : Trail
    is : follow m start t within p ≡ Some trail
    cheap : trail.cost ≤ (at t p).label

  chain_followed : (p : ℕ) → Chain m start t p → Followed p
  chain_followed p (root e) = by (way p)
    where
      by : Back p → Followed p
      by (arrives _ is) = record { within = 1; trail = record { places = p ∷ []; cost = 0 }; is = is 0; cheap = omega arith }
      by (lost never _ is) = absurd (never e)
      by (comes never l usable to is) = absurd (never e)
  chain_followed p (link {q = q} d parent q-seen leg to step chain) = by (chain_followed q chain) (way p)
    where
      named : m.leg (at t p).parent (at t p).leg ≡ Some d
      named = ap (λ x. m.leg x (at t p).leg) parent ∙ leg

      by : Followed q → Back p → Followed p
      by h (arrives _ is) = record { within = 1; trail = record { places = p ∷ []; cost = 0 }; is = is 0; cheap = omega arith }
      by h (lost _ never is) = absurd (never d named to)
      by h (comes _ l usable _ is) =
          let same : l ≡ d = cc (usable, named) in
          let cost : l.cost ≡ d.cost = ap (λ (x : Leg). x.cost) same in
          record {
            within = suc h.within;
            trail = record { places = h.trail.places ++ (p ∷ []); cost = h.trail.cost + l.cost };
            is = is h.within ∙ ap (λ x. extended l.cost p (follow m start t h.within x)) parent ∙ ap (extended l.cost p) h.is;
            cheap = omega (arith, h.cheap);
          }

  pub chain_readable : (p : ℕ) → p < m.size → Chain m start t p → Readable m start t p
  chain_readable p p_on chain =
      let h : Followed p = chain_followed p chain in
      let e : follow m start t m.size p ≡ Some h.trail = follow_enough h.within p h.trail p_on h.is in
      record { trail = h.trail; is = e; to = subst (Says m start p m.size) e (follow_says m.size p); cheap = h.cheap }
