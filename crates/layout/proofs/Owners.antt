-- Which place a leg record belongs to, where first legs are in order.
use Rattle.std.proofs.Common.{◌≡◌, ℕ, zero, suc, ◌+◌, ◌-◌, ◌<◌, ◌≤◌, Bool, true, false, cond, ltb, leb, List, Some, None, Option, sym, refl, ap, ◌∙◌, subst, ⊎_elim, le_refl, add-zero, arith}
use Rattle.std.proofs.lemmas.Bool.{lt-ltb, le-ltb, leb-true, leb-false, le-leb, lt-leb, cond-true, cond-false, cases_lt, cases_eq}
use Rattle.std.specs.Option.{option_map}
use Rattle.layout.specs.declared.counts.Counts.{Counts}
use Rattle.layout.specs.Formed.{Ordered}
use Rattle.layout.specs.Layout.{first_leg, leg_count, leg_record, leg_of, floor_under}
use Rattle.layout.specs.Lowest.{lowest}
use Rattle.layout.specs.Questions.{owner, steep}
use Rattle.layout.specs.Records.{whole, record_at}
use Rattle.layout.specs.Steep.{falls_short, Gentle, GentleAt, FirstSteep}
use Rattle.layout.proofs.Lowests.{lowest_all, lowest_found}

-- Of the first u places, o is the last whose list does not begin behind leg j.
abbrev Owned : List ℕ → Counts → ℕ → ℕ → ℕ → Type 0
Owned bs n j u o = (o < u) × (first_leg bs n o ≤ j) × ((v : ℕ) → o < v → v < u → j < first_leg bs n v)

module _ (bs : List ℕ) (n : Counts) (ordered : Ordered bs n) where
  rising : (p d : ℕ) → first_leg bs n p ≤ first_leg bs n (p + d)
  rising p zero = subst (λ q. first_leg bs n p ≤ first_leg bs n q) (sym (add-zero p)) (le_refl (first_leg bs n p))
  rising p (suc d) =
      subst (λ q. first_leg bs n p ≤ first_leg bs n q) (sym (next p d)) (omega (arith, rising p d, ordered.rises (p + d)))
    where
      next : (x y : ℕ) → x + suc y ≡ (x + y) + 1
      next x y = omega arith

  rise : (p q : ℕ) → p ≤ q → first_leg bs n p ≤ first_leg bs n q
  rise p q h = subst (λ x. first_leg bs n p ≤ first_leg bs n x) (back p q h) (rising p (q - p))
    where
      back : (x y : ℕ) → x ≤ y → x + (y - x) ≡ y
      back x y k = omega arith

  -- the first leg of a place is in its record, and behind the last place all legs are passed
  first_is : (p : ℕ) → p < n.places → first_leg bs n p ≡ (record_at bs p).half
  first_is p h = cond-true (ltb p n.places) _ _ (lt-ltb p n.places h)

  last_is : first_leg bs n n.places ≡ n.legs
  last_is = cond-false (ltb n.places n.places) _ _ (le-ltb n.places n.places (omega arith))

  owner_is : (j u : ℕ) → 0 < u → u ≤ n.places → Owned bs n j u (owner bs j u)
  owner_is j zero some within = absurd (omega arith)
  owner_is j (suc u) some within = by (owner_is j u) (leb (record_at bs u).half j) refl
    where
      by : (0 < u → u ≤ n.places → Owned bs n j u (owner bs j u))
          → (b : Bool) → leb (record_at bs u).half j ≡ b → Owned bs n j (suc u) (cond b u (owner bs j u))
      by before true e =
          (omega arith, omega (arith, first_is u within, leb-true _ _ e), λ v above below. absurd (omega arith))
      by before false e =
          let behind : j < first_leg bs n u = omega (arith, first_is u within, leb-false _ _ e) in
          let first : 0 < u = ⊎_elim (λ (z : u ≡ 0). absurd (omega (arith, behind, ordered.begins, ap (first_leg bs n) z))) (λ h. omega arith) (cases_eq u 0) in
          let earlier = before first (omega arith) in (
            omega (arith, earlier.0),
            earlier.1,
            λ v above below. ⊎_elim (λ (same : v ≡ u). rw same behind) (λ other. earlier.2 v above (omega arith)) (cases_eq v u),
          )

  -- the length of a place's list
  pub count_is : (p : ℕ) → p < n.places → leg_count bs n p ≡ first_leg bs n (p + 1) - first_leg bs n p
  count_is p h = cond-true (ltb p n.size) _ _ (lt-ltb p n.size (omega (arith, ordered.each)))

  -- every leg stands in its owner's list
  in_list : (j : ℕ) → j < n.legs → (q : ℕ) × (k : ℕ) × (q < n.places) × (first_leg bs n q + k ≡ j) × (k < leg_count bs n q)
  in_list j h =
      let o : Owned bs n j n.places (owner bs j n.places) = owner_is j n.places (omega (arith, ordered.some)) (le_refl n.places) in
      let q : ℕ = owner bs j n.places in
      let ends : j < first_leg bs n (q + 1) = ⊎_elim
      (λ (more : q + 1 < n.places). o.2 (q + 1) (omega arith) more)
      (λ (last : n.places ≤ q + 1).
      let end : n.places ≡ q + 1 = omega (arith, o.0) in
      subst (λ x. j < first_leg bs n x) end (subst (λ x. j < x) (sym last_is) h))
      (cases_lt (q + 1) n.places) in
      (q, j - first_leg bs n q, o.0, omega (arith, o.1), omega (arith, o.1, ends, count_is q o.0))

  -- a leg in a place's list is owned by that place
  owned : (p k : ℕ) → p < n.places → k < leg_count bs n p → owner bs (first_leg bs n p + k) n.places ≡ p
  owned p k h inside =
      let j : ℕ = first_leg bs n p + k in
      let o : Owned bs n j n.places (owner bs j n.places) = owner_is j n.places (omega (arith, ordered.some)) (le_refl n.places) in
      ⊎_elim (λ (before : owner bs j n.places < p). absurd (omega (arith, o.2 p before h)))
      (λ (after : p ≤ owner bs j n.places). ⊎_elim
      (λ (behind : p < owner bs j n.places).
      absurd (omega (arith, o.1, rise (p + 1) (owner bs j n.places) (omega arith), count_is p h, inside)))
      (λ (same : owner bs j n.places ≤ p). omega arith)
      (cases_lt p (owner bs j n.places)))
      (cases_lt (owner bs j n.places) p)

  -- the test on a leg's record is the test on the leg
  pub steep_is : (p k : ℕ) → p < n.places → k < leg_count bs n p
      → steep bs n (leg_record bs n p k) ≡ falls_short (λ q. (record_at bs q).word1) p (leg_of bs n p k)
  steep_is p k h inside =
      rw (lt-ltb k (leg_count bs n p) inside, le-leb n.places (leg_record bs n p k) (omega arith), past n.places (first_leg bs n p + k), owned p k h inside)
    where
      past : (x y : ℕ) → (x + y) - x ≡ y
      past x y = omega arith

  -- where the legs before it are gentle, no record before a leg's record is steep
  gentle_before : (p k : ℕ) → first_leg bs n p + k ≤ first_leg bs n (p + 1)
      → Gentle (floor_under (λ _. 0) bs n) (λ q. (record_at bs q).word1) p
      → GentleAt (floor_under (λ _. 0) bs n) (λ q. (record_at bs q).word1) p k
      → (r : ℕ) → r < leg_record bs n p k → r < whole bs → steep bs n r ≡ false
  gentle_before p k inside before at r below within = ⊎_elim
      (λ (low : r < n.places). rw (lt-leb n.places r low))
      (λ (high : n.places ≤ r).
      let (q, i, place, same, listed) = in_list (r - n.places) (omega (arith, ordered.all)) in
      let here : leg_record bs n q i ≡ r = omega (arith, same) in
      subst (λ x. steep bs n x ≡ false) here (steep_is q i place listed ∙ ⊎_elim
      (λ (earlier : q < p). before q i earlier listed)
      (λ (later : p ≤ q). ⊎_elim
      (λ (behind : p < q). absurd (omega (arith, same, rise (p + 1) q (omega arith))))
      (λ (back : q ≤ p).
      let one : p ≡ q = omega arith in
      subst (λ x. falls_short (λ y. (record_at bs y).word1) x (leg_of bs n x i) ≡ false) one
      (at i (omega (arith, same, ap (first_leg bs n) one))))
      (cases_lt p q))
      (cases_lt q p)))
      (cases_lt r n.places)

  -- the lowest steep record is that of the first steep leg, by place and then by number
  pub lowest_steep : (at : Option (ℕ × ℕ)) → FirstSteep (floor_under (λ _. 0) bs n) (λ q. (record_at bs q).word1) at
      → lowest (steep bs n) (whole bs) ≡ option_map (λ (x : ℕ × ℕ). leg_record bs n x.0 x.1) at
  lowest_steep None gentle = lowest_all (steep bs n) (whole bs) (λ r within.
      gentle_before n.places 0 (omega (arith, ordered.rises n.places))
      (subst (λ x. Gentle (floor_under (λ _. 0) bs n) (λ q. (record_at bs q).word1) x) ordered.each gentle) (λ i h. absurd (omega arith))
      r (omega (arith, ordered.all, last_is)) within)
  lowest_steep (Some (p, k)) first =
      let place : p < n.places = omega (arith, first.0, ordered.each) in
      let inside : first_leg bs n p + k < first_leg bs n (p + 1) = omega (arith, first.1, count_is p place) in
      let within : leg_record bs n p k < whole bs = omega (arith, inside, ordered.all, rise (p + 1) n.places (omega arith), last_is) in
      lowest_found (steep bs n) (leg_record bs n p k) (whole bs)
      (lowest_all (steep bs n) (leg_record bs n p k) (λ r below. gentle_before p k (omega arith) first.3 first.4 r below (omega arith)))
      (steep_is p k place first.1 ∙ first.2) within
