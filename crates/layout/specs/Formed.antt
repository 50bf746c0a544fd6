-- What an accepted layout is, and that its floor is then sound.
use Rattle.std.specs.Prelude.{◌≡◌, ℕ, ◌+◌, ◌-◌, ◌<◌, ◌≤◌, Bool, true, false, cond, List, Some, None, nat_lt, refl}
use Rattle.std.proofs.Common.{ap, subst, arith}
use Rattle.std.proofs.lemmas.Bool.{ltb-true, le-ltb, cond-false, cond_both}
use Rattle.floors.specs.declared.leg.Leg.{Leg}
use Rattle.floors.specs.Guided.{Limited}
use Rattle.floors.specs.Sound.{Limits, Outside, Sound, Admissible, limit}
use Rattle.layout.specs.declared.counts.Counts.{Counts}
use Rattle.layout.specs.Layout.{first_leg, leg_count, leg_record, leg_of, low_of, hope_of, steps_of, floor_under, floor_of, guesses_of}
use Rattle.layout.specs.Records.{whole, record_at}

-- The counts are within the limits, first legs do not pass the legs, legs lead to places, and costs are two-byte numbers.
pub record Formed (bs : List ℕ) (n : Counts) : Type 0 where
  pub some_place : 1 ≤ n.size
  pub few_places : n.size ≤ 4096
  pub few_legs : n.legs ≤ 65535
  pub firsts : (p : ℕ) → first_leg bs n p ≤ n.legs
  pub targets : (j : ℕ) → j < n.legs → (record_at bs (n.places + j)).word1 < n.size
  pub costs : (r : ℕ) → (record_at bs r).half ≤ 65535

-- Each place record is a place, the legs fill the rest, and first legs begin at 0 and never fall.
pub record Ordered (bs : List ℕ) (n : Counts) : Type 0 where
  pub each : n.size ≡ n.places
  pub some : 1 ≤ n.places
  pub all : n.places + n.legs ≡ whole bs
  pub begins : first_leg bs n 0 ≡ 0
  pub rises : (p : ℕ) → first_leg bs n p ≤ first_leg bs n (p + 1)

-- The estimates are within the limit, and the low ones keep the law.
pub record Lawful (bs : List ℕ) (n : Counts) : Type 0 where
  pub lows : (p : ℕ) → low_of bs n p ≤ limit
  pub hopes : (p : ℕ) → hope_of bs n p ≤ limit
  pub step_counts : (p : ℕ) → steps_of bs n p ≤ limit
  pub admissible : Admissible (floor_of bs n)

-- A number below the length of a place's list stands within the list.
within_list : (bs : List ℕ) (n : Counts) (p k : ℕ) → k < leg_count bs n p → (p < n.size) × (first_leg bs n p + k < first_leg bs n (p + 1))
within_list bs n p k = by (nat_lt p n.size) refl
  where
    by : (b : Bool) → nat_lt p n.size ≡ b → k < cond b (first_leg bs n (p + 1) - first_leg bs n p) 0
        → (p < n.size) × (first_leg bs n p + k < first_leg bs n (p + 1))
    by true e h = (ltb-true p n.size e, omega arith)
    by false e h = absurd (omega arith)

-- A usable leg stands within its place's list, and is what its record says.
pub usable : (bs : List ℕ) (n : Counts) (p k : ℕ) (l : Leg) → leg_of bs n p k ≡ Some l
    → (p < n.size) × (first_leg bs n p + k < first_leg bs n (p + 1))
    × ((record_at bs (leg_record bs n p k)).word1 ≡ l.target) × ((record_at bs (leg_record bs n p k)).half ≡ l.cost)
usable bs n p k l = by (nat_lt k (leg_count bs n p)) refl
  where
    read : Leg
    read = record { target = (record_at bs (leg_record bs n p k)).word1; cost = (record_at bs (leg_record bs n p k)).half }

    by : (b : Bool) → nat_lt k (leg_count bs n p) ≡ b → cond b (Some read) None ≡ Some l
        → (p < n.size) × (first_leg bs n p + k < first_leg bs n (p + 1))
        × ((record_at bs (leg_record bs n p k)).word1 ≡ l.target) × ((record_at bs (leg_record bs n p k)).half ≡ l.cost)
    by true test e =
        let inside = within_list bs n p k (ltb-true k (leg_count bs n p) test) in
        let same : read ≡ l = cc in
        (inside.0, inside.1, ap (λ (x : Leg). x.target) same, ap (λ (x : Leg). x.cost) same)
    by false test e = let z : ◌≡◌ {A = ℕ} 0 1 = cc in absurd (omega arith)

-- Off the floor a value held by the number of places is its default.
off : {A : Type 0} (p size : ℕ) (x y : A) → size ≤ p → cond (nat_lt p size) x y ≡ y
off p size x y h = cond-false (nat_lt p size) x y (le-ltb p size h)

module _ (bs : List ℕ) (n : Counts) (formed : Formed bs n) (low : ℕ → ℕ) where
  few_legs_of : (p : ℕ) → leg_count bs n p ≤ 65535
  few_legs_of p = cond_both (nat_lt p n.size) _ _ (λ x. x ≤ 65535)
      (λ _. omega (arith, formed.few_legs, formed.firsts (p + 1))) (λ _. omega arith)

  limits_of : ((p : ℕ) → low p ≤ limit) → Limits (floor_under low bs n)
  limits_of lows = record {
    some_place = formed.some_place;
    few_places = formed.few_places;
    few_legs = few_legs_of;
    targets = λ p k l e.
        let u = usable bs n p k l e in
        subst (λ x. x < n.size) u.2 (formed.targets (first_leg bs n p + k) (omega (arith, u.1, formed.firsts (p + 1))));
    costs = λ p k l e. subst (λ x. x ≤ 65535) (usable bs n p k l e).3 (formed.costs (leg_record bs n p k));
    lows = lows;
  }

  outside_of : ((p : ℕ) → n.size ≤ p → low p ≡ 0) → Outside (floor_under low bs n)
  outside_of lows = record {
    no_legs = λ p h. off p n.size _ _ h;
    past_list = λ p k h. off k (leg_count bs n p) _ _ h;
    no_goal = λ p h. off p n.size _ _ h;
    no_low = lows;
  }

-- A draft, before its low estimates are looked at: under estimates of 0 the law is plain.
pub draft_sound : (bs : List ℕ) (n : Counts) → Formed bs n → Sound (floor_under (λ _. 0) bs n)
draft_sound bs n formed = record {
  limits = limits_of bs n formed (λ _. 0) (λ p. omega arith);
  outside = outside_of bs n formed (λ _. 0) (λ p h. refl);
  admissible = λ p c route. omega arith;
}

pub layout_sound : (bs : List ℕ) (n : Counts) → Formed bs n → Lawful bs n → Sound (floor_of bs n)
layout_sound bs n formed lawful = record {
  limits = limits_of bs n formed (low_of bs n) lawful.lows;
  outside = outside_of bs n formed (low_of bs n) (λ p h. off p n.size _ _ h);
  admissible = lawful.admissible;
}

pub layout_limited : (bs : List ℕ) (n : Counts) → Lawful bs n → Limited (guesses_of bs n)
layout_limited bs n lawful = record { hopes = lawful.hopes; step_counts = lawful.step_counts }
