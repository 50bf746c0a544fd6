-- What the questions establish where they are answered yes.
use Rattle.std.proofs.Common.{◌≡◌, ℕ, zero, suc, ◌+◌, ◌-◌, ◌*◌, ◌<◌, ◌≤◌, Bool, true, false, cond, not, ◌&&◌, ◌||◌, eqb, ltb, leb, List, get_or, Some, None, Option, sym, refl, ap, ◌∙◌, subst, ⊎_elim, le_refl, add-one, arith}
use Rattle.std.proofs.lemmas.Bool.{ltb-true, ltb-false, lt-ltb, le-ltb, leb-false, le-leb, eqb-true, not-false, or_parts, cond-true, cond-false, cond_both, cases_lt, false≢true}
use Rattle.floors.specs.declared.leg.Leg.{Leg}
use Rattle.floors.specs.Consistent.{consistent_admissible}
use Rattle.floors.specs.Sound.{limit}
use Rattle.layout.specs.declared.counts.Counts.{Counts}
use Rattle.layout.specs.Formed.{Formed, Lawful, Ordered, usable}
use Rattle.layout.specs.Layout.{places, counts, first_leg, leg_count, leg_record, leg_of, goal_of, low_of, floor_of, place_tag}
use Rattle.layout.specs.Lowest.{lowest}
use Rattle.layout.specs.Questions.{broken_length, no_first_place, wrong_tag, too_many, wrong_fixed, wrong_first, wrong_target, wrong_estimate, high_goal, steep}
use Rattle.layout.specs.Records.{whole, part_at, zeros, record_at}
use Rattle.layout.specs.Steep.{falls_short}
use Rattle.layout.specs.Verdict.{Verdict, accepted, refused, asked, then, shape, each_record, low_law}
use Rattle.layout.proofs.Lowests.{lowest_none}
use Rattle.layout.proofs.Owners.{count_is, steep_is}
use Rattle.layout.proofs.Tags.{places_within, first_place}

then_both : (v w : Verdict) → then v w ≡ accepted → (v ≡ accepted) × (w ≡ accepted)
then_both accepted w e = (refl, e)
then_both (refused number r) w e = let z : ◌≡◌ {A = ℕ} 0 1 = cc in absurd (omega arith)

asked_none : (number : ℕ) (o : Option ℕ) → asked number o ≡ accepted → o ≡ None
asked_none number None e = refl
asked_none number (Some r) e = let z : ◌≡◌ {A = ℕ} 0 1 = cc in absurd (omega arith)

-- where two or four questions in a row are answered yes, no record fails any of them
two_none : (i j : ℕ) (a b : Option ℕ) → then (asked i a) (asked j b) ≡ accepted → (a ≡ None) × (b ≡ None)
two_none i j a b e =
    let t = then_both (asked i a) (asked j b) e in
    (asked_none i a t.0, asked_none j b t.1)

four_none : (i j k l : ℕ) (a b c d : Option ℕ) → then (asked i a) (then (asked j b) (then (asked k c) (asked l d))) ≡ accepted
    → (a ≡ None) × (b ≡ None) × (c ≡ None) × (d ≡ None)
four_none i j k l a b c d e =
    let t = then_both (asked i a) (then (asked j b) (then (asked k c) (asked l d))) e in
    let u = then_both (asked j b) (then (asked k c) (asked l d)) t.1 in
    let v = two_none k l c d u.1 in
    (asked_none i a t.0, asked_none j b u.0, v.0, v.1)

-- a test that names no record failed
unnamed : (b : Bool) (r : ℕ) (o : Option ℕ) → cond b (Some r) o ≡ None → (b ≡ false) × (o ≡ None)
unnamed true r o e = let z : ◌≡◌ {A = ℕ} 0 1 = cc in absurd (omega arith)
unnamed false r o e = (refl, e)

named : (b : Bool) (r : ℕ) → cond b None (Some r) ≡ None → b ≡ true
named true r e = refl
named false r e = let z : ◌≡◌ {A = ℕ} 0 1 = cc in absurd (omega arith)

second_false : (x y : Bool) → (x && y) ≡ false → x ≡ true → y ≡ false
second_false true y e f = e
second_false false y e f = absurd (false≢true f)

both_true : (x y : Bool) → cond x y false ≡ true → (x ≡ true) × (y ≡ true)
both_true true y e = (refl, e)
both_true false y e = absurd (false≢true e)

module _ (bs : List ℕ) (shaped : shape bs ≡ accepted) where
  shape_none : (broken_length bs ≡ None) × (no_first_place bs ≡ None) × (lowest (wrong_tag bs) (whole bs) ≡ None) × (too_many (counts bs) ≡ None)
  shape_none = four_none 1 2 3 4 _ _ _ _ shaped

  few_counts : (places bs ≤ 4096) × (whole bs - places bs ≤ 65535)
  few_counts =
      let first = unnamed (ltb 4096 (places bs)) 4096 (cond (ltb 65535 (whole bs - places bs)) (Some (places bs + 65535)) None) shape_none.3 in
      let second = unnamed (ltb 65535 (whole bs - places bs)) (places bs + 65535) None first.1 in
      (ltb-false _ _ first.0, ltb-false _ _ second.0)

  -- the first record is there, and is a place record
  some_place : 1 ≤ places bs
  some_place = first_place bs (named (eqb (record_at bs 0).tag place_tag) 0 shape_none.1)

-- Two bytes hold at most 65,535.
half_small : (bs : List ℕ) → ((i : ℕ) → get_or bs i 0 < 256) → (r : ℕ) → (record_at bs r).half ≤ 65535
unfolding record_at
half_small bs bytes r = cond_both (ltb r (whole bs)) (part_at bs (16 * r)) zeros (λ x. x.half ≤ 65535)
    (λ _. omega (arith, bytes (16 * r + 2), bytes (16 * r + 2 + 1))) (λ _. omega arith)

module _ (bs : List ℕ) (shaped : shape bs ≡ accepted) (read : each_record bs (counts bs) ≡ accepted) where
  read_none : (lowest (wrong_fixed bs (counts bs)) (whole bs) ≡ None) × (lowest (wrong_first bs (counts bs)) (places bs) ≡ None)
      × (lowest (wrong_target bs (counts bs)) (whole bs) ≡ None) × (lowest (wrong_estimate bs) (places bs) ≡ None)
  read_none = four_none 5 6 7 8 _ _ _ _ read

  first_zero : (record_at bs 0).half ≡ 0
  first_zero = eqb-true _ _ (not-false _ (lowest_none (wrong_first bs (counts bs)) (places bs) read_none.1 0 (omega (arith, some_place bs shaped))))

  -- the first leg of a later place is neither before its forerunner's nor past the legs
  first_next : (p : ℕ) → suc p < places bs → ((record_at bs p).half ≤ (record_at bs (suc p)).half) × ((record_at bs (suc p)).half ≤ whole bs - places bs)
  first_next p h =
      let parts = or_parts (ltb (record_at bs (suc p)).half (record_at bs p).half) (ltb (whole bs - places bs) (record_at bs (suc p)).half)
      (lowest_none (wrong_first bs (counts bs)) (places bs) read_none.1 (suc p) h) in
      (ltb-false _ _ parts.0, ltb-false _ _ parts.1)

  first_at : (p : ℕ) → p < places bs → (record_at bs p).half ≤ whole bs - places bs
  first_at zero h = omega (arith, first_zero)
  first_at (suc p) h = (first_next p h).1

  first_within : (p : ℕ) → first_leg bs (counts bs) p ≤ whole bs - places bs
  first_within p = cond_both (ltb p (places bs)) _ _ (λ x. x ≤ whole bs - places bs) (λ e. first_at p (ltb-true _ _ e)) (λ e. le_refl _)

  first_rises : (p : ℕ) → first_leg bs (counts bs) p ≤ first_leg bs (counts bs) (p + 1)
  first_rises p = ⊎_elim
      (λ (more : p + 1 < places bs).
      rw (
        cond-true (ltb p (places bs)) (record_at bs p).half (whole bs - places bs) (lt-ltb p (places bs) (omega arith)),
        cond-true (ltb (p + 1) (places bs)) (record_at bs (p + 1)).half (whole bs - places bs) (lt-ltb (p + 1) (places bs) more),
      )
      (subst (λ q. (record_at bs p).half ≤ (record_at bs q).half) (sym (add-one p)) (first_next p (omega arith)).0))
      (λ (last : places bs ≤ p + 1).
      rw (cond-false (ltb (p + 1) (places bs)) (record_at bs (p + 1)).half (whole bs - places bs) (le-ltb (p + 1) (places bs) last)) (first_within p))
      (cases_lt (p + 1) (places bs))

  ordered : Ordered bs (counts bs)
  ordered = record {
    each = refl;
    some = some_place bs shaped;
    all = omega (arith, places_within bs);
    begins = cond-true (ltb 0 (places bs)) _ _ (lt-ltb 0 (places bs) (omega (arith, some_place bs shaped))) ∙ first_zero;
    rises = first_rises;
  }

  target_within : (j : ℕ) → j < whole bs - places bs → (record_at bs (places bs + j)).word1 < places bs
  target_within j h = leb-false _ _ (second_false (leb (places bs) (places bs + j)) (leb (places bs) (record_at bs (places bs + j)).word1)
      (lowest_none (wrong_target bs (counts bs)) (whole bs) read_none.2 (places bs + j) (omega (arith, places_within bs)))
      (le-leb (places bs) (places bs + j) (omega arith)))

  formed : ((i : ℕ) → get_or bs i 0 < 256) → Formed bs (counts bs)
  formed bytes = record {
    some_place = some_place bs shaped;
    few_places = (few_counts bs shaped).0;
    few_legs = (few_counts bs shaped).1;
    firsts = first_within;
    targets = target_within;
    costs = half_small bs bytes;
  }

  -- the estimates of a place are within the limit
  estimates : (p : ℕ) → p < places bs
      → ((record_at bs p).word1 ≤ limit) × ((record_at bs p).word2 ≤ limit) × ((record_at bs p).word3 ≤ limit)
  estimates p h =
      let first = or_parts (ltb limit (record_at bs p).word1) (ltb limit (record_at bs p).word2 || ltb limit (record_at bs p).word3)
      (lowest_none (wrong_estimate bs) (places bs) read_none.3 p h) in
      let rest = or_parts (ltb limit (record_at bs p).word2) (ltb limit (record_at bs p).word3) first.1 in
      (ltb-false _ _ first.0, ltb-false _ _ rest.0, ltb-false _ _ rest.1)

  module _ (lows : low_law bs (counts bs) ≡ accepted) where
    low_none : (lowest (high_goal bs) (places bs) ≡ None) × (lowest (steep bs (counts bs)) (whole bs) ≡ None)
    low_none = two_none 9 9 _ _ lows

    low_is : (p : ℕ) → p < places bs → low_of bs (counts bs) p ≡ (record_at bs p).word1
    low_is p h = cond-true (ltb p (places bs)) _ _ (lt-ltb p (places bs) h)

    goal_zero : (p : ℕ) → goal_of bs (counts bs) p ≡ true → low_of bs (counts bs) p ≡ 0
    goal_zero p e =
        let g = both_true (ltb p (places bs)) (eqb (record_at bs p).flag 1) e in
        let place : p < places bs = ltb-true _ _ g.0 in
        low_is p place ∙ eqb-true _ _ (not-false _ (second_false (eqb (record_at bs p).flag 1) (not (eqb (record_at bs p).word1 0))
        (lowest_none (high_goal bs) (places bs) low_none.0 p place) g.1))

    leg_gentle : (p k : ℕ) (l : Leg) → leg_of bs (counts bs) p k ≡ Some l → low_of bs (counts bs) p ≤ l.cost + low_of bs (counts bs) l.target
    leg_gentle p k l e =
        let (place, inside, target, cost) = usable bs (counts bs) p k l e in
        let listed : k < leg_count bs (counts bs) p = omega (arith, inside, count_is bs (counts bs) ordered p place) in
        let within : leg_record bs (counts bs) p k < whole bs = omega (arith, inside, first_within (p + 1), places_within bs) in
        let leads : l.target < places bs = subst (λ t. t < places bs) target (target_within (first_leg bs (counts bs) p + k) (omega (arith, inside, first_within (p + 1)))) in
        let flat : ltb (l.cost + (record_at bs l.target).word1) (record_at bs p).word1 ≡ false =
        ap (falls_short (λ q. (record_at bs q).word1) p) (sym e) ∙ sym (steep_is bs (counts bs) ordered p k place listed)
        ∙ lowest_none (steep bs (counts bs)) (whole bs) low_none.1 (leg_record bs (counts bs) p k) within in
        rw (low_is p place, low_is l.target leads) (ltb-false _ _ flat)

    lawful : Lawful bs (counts bs)
    lawful = record {
      lows = λ p. cond_both (ltb p (places bs)) _ _ (λ x. x ≤ limit) (λ e. (estimates p (ltb-true _ _ e)).0) (λ e. omega arith);
      hopes = λ p. cond_both (ltb p (places bs)) _ _ (λ x. x ≤ limit) (λ e. (estimates p (ltb-true _ _ e)).1) (λ e. omega arith);
      step_counts = λ p. cond_both (ltb p (places bs)) _ _ (λ x. x ≤ limit) (λ e. (estimates p (ltb-true _ _ e)).2) (λ e. omega arith);
      admissible = consistent_admissible (floor_of bs (counts bs)) (record { goals = goal_zero; legs = leg_gentle });
    }

-- The same of counts that were found, as the intake meets them.
pub read_fine : (bs : List ℕ) (n : Counts) → ((i : ℕ) → get_or bs i 0 < 256) → n ≡ counts bs
    → accepted ≡ shape bs → accepted ≡ each_record bs n → Formed bs n × Ordered bs n
read_fine bs n bytes counted shaped read =
    let here : each_record bs (counts bs) ≡ accepted = sym (read ∙ ap (each_record bs) counted) in
    subst (λ x. Formed bs x × Ordered bs x) (sym counted) (formed bs (sym shaped) here bytes, ordered bs (sym shaped) here)

pub all_fine : (bs : List ℕ) (n : Counts) → ((i : ℕ) → get_or bs i 0 < 256) → n ≡ counts bs
    → accepted ≡ shape bs → accepted ≡ each_record bs n → accepted ≡ low_law bs n → Formed bs n × Lawful bs n
all_fine bs n bytes counted shaped read lows =
    let here : each_record bs (counts bs) ≡ accepted = sym (read ∙ ap (each_record bs) counted) in
    let low : low_law bs (counts bs) ≡ accepted = sym (lows ∙ ap (low_law bs) counted) in
    ((read_fine bs n bytes counted shaped read).0, subst (Lawful bs) (sym counted) (lawful bs (sym shaped) here low))
