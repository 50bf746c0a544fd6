-- The check of a roster decides whether the queue holds what is expected.
use Rattle.std.proofs.Common.{◌≡◌, ℕ, zero, suc, ◌<◌, ◌≤◌, Bool, true, false, cond, eqb, List, [], ◌∷◌, map, length, get_or, Some, None, Option, sym, refl, ap, ◌∙◌, subst, ⊎_elim, arith, length-take, get_or-take}
use Rattle.std.proofs.lemmas.List.{get_or-map, get_or_default, length-map}
use Rattle.std.proofs.lemmas.Bool.{cases_eq, cases_lt, cases_Bool, and_parts, and_from, and_left, and_right, or_cases, or_left, or_right, eqb-true, eq-eqb, ltb-true, lt-ltb, both_ways, cond-true, cond-false}
use Rattle.std.specs.Bool.{MatchBool, then_some}
use Rattle.std.specs.Fn.{Called}
use Rattle.std.specs.Iterator.{ChecksAll}
use Rattle.std.specs.List.{range_with_len, AllWithin, HoldsAt}
use Rattle.std.specs.declared.ops.Range.{Range}
use Rattle.std.proofs.iter.Yields.{nat_range_steps}
use Rattle.std.proofs.lemmas.Iterator.{YieldsList-from_range, cases_from_all}
use denote.Param.Members.{Mut}
use Rattle.std.proofs.lemmas.List.FromFn.{length-range_with_len, get_or-range_with_len}
use Rattle.queue.specs.Entries.{entries, entry_at}
use Rattle.queue.specs.Heap.{Heap, parent_slot}
use Rattle.queue.specs.Order.{Ordered}
use Rattle.queue.proofs.Holes.{at_most_self}
use Rattle.roster.specs.Holds.{Holds, expected_count}
use Rattle.roster.specs.Check.{every, expects, entry_right, slot_right, names_home, home_right, all_right, roster_right, Decided, Tested}
use Rattle.roster.proofs.Counting.{expected_count_le, holds_count}
use Rattle.roster.proofs.Expectations.{none_some}
use Rattle.roster.proofs.Holding.{holds_none}

-- numbers that all pass
pub every_each : (p : ℕ → Bool) (n : ℕ) → every p n ≡ true → (i : ℕ) → i < n → p i ≡ true
every_each p zero t i l = absurd (omega arith)
every_each p (suc n) t i l =
    let b = and_parts (every p n) (p n) t in
    ⊎_elim (λ (e : i ≡ n). rw e b.1) (λ ne. every_each p n b.0 i (omega arith)) (cases_eq i n)

pub each_every : (p : ℕ → Bool) (n : ℕ) → ((i : ℕ) → i < n → p i ≡ true) → every p n ≡ true
each_every p zero all = refl
each_every p (suc n) all = and_from (every p n) (p n) (each_every p n (λ i l. all i (omega arith))) (all n (omega arith))

-- a number that fails
one_fails : (p : ℕ → Bool) (n i : ℕ) → i < n → p i ≡ false → every p n ≡ false
one_fails p n i l f = ⊎_elim (λ t. absurd (both_ways (p i) f (every_each p n t i l))) (λ e. e) (cases_Bool (every p n))

-- what a chain that tests each number below n answers
pub tested_ran : {R F : Type 0} {g : Mut F (ℕ × Unit {0}) Bool} {s : Range ℕ} (u : Range ℕ) (f : F) (passes : R → ℕ → Bool) (n : ℕ) (r : Bool)
    → ChecksAll nat_range_steps g s f r u → s ≡ record { start = 0; end = n } → ((k : ℕ) (b : Bool) (q : F) → Called g f (k, tt) b q → (q ≡ f) × ((d : R) → passes d k ≡ b)) → Tested passes n r
tested_ran {R} u f passes n r ran is each = go r (cases_from_all u f r (λ k. (d : R) → passes d k ≡ true) (λ k. (d : R) → passes d k ≡ false) ran
    (YieldsList-from_range 0 n n is (omega arith)) (λ k q c. each k true q c) (λ k q c. (each k false q c).1))
  where
    go : (o : Bool) → MatchBool o (AllWithin (λ k. (d : R) → passes d k ≡ true) (range_with_len 0 n) 0 (length (range_with_len 0 n))) ((k : ℕ) × (k < length (range_with_len 0 n)) × HoldsAt (λ k. (d : R) → passes d k ≡ false) (range_with_len 0 n) k) → Tested passes n o
    go true all = λ k l d.
        let e : get_or (range_with_len 0 n) k 0 ≡ k = omega (arith, get_or-range_with_len 0 n k 0 l) in
        subst (λ (i : ℕ). passes d i ≡ true) e (all k 0 (omega arith) (omega (arith, length-range_with_len 0 n)) d)
    go false (k, l, fails) =
        let lk : k < n = omega (arith, length-range_with_len 0 n) in
        let e : get_or (range_with_len 0 n) k 0 ≡ k = omega (arith, get_or-range_with_len 0 n k 0 lk) in
        (k, lk, λ d. subst (λ (i : ℕ). passes d i ≡ false) e (fails 0 d))

module _ {R E : Type 0} (le : E → E → Bool) (home : E → ℕ) (get : R → E) (note : R → ℕ) (ord : Ordered le) (x : ℕ → Option E) where
  expects_some : (o : Option E) (e : E) → expects le o e ≡ true → o ≡ Some e
  expects_some None e t = absurd (both_ways false refl t)
  expects_some (Some y) e t = let b = and_parts (le y e) (le e y) t in ap Some (ord.antisym y e b.0 b.1)

  some_expects : (o : Option E) (e : E) → o ≡ Some e → expects le o e ≡ true
  some_expects o e is = rw is (and_from (le e e) (le e e) (at_most_self le ord e) (at_most_self le ord e))

  module _ (d : R) (xs : List R) where
    -- the entry in a slot, by any default
    at : (i : ℕ) → i < length xs → (d' : E) → entry_at get xs d' i ≡ get (get_or xs i d)
    at i l d' = get_or-map get xs i d d' l

    at_entries : (n i : ℕ) → n ≤ length xs → i < n → (d' : E) → get_or (entries get n xs) i d' ≡ get (get_or xs i d)
    at_entries n i ln l d' = get_or-take n (map get xs) i d' l ∙ at i (omega arith) d'

    -- what the test of a slot says
    record Right (i : ℕ) (e : E) : Type 0 where
      within : home e < length xs
      expected : x (home e) ≡ Some e
      noted : note (get_or xs (home e) d) ≡ i
      fits : 0 < i → le (get (get_or xs (parent_slot i) d)) e ≡ true

    slot_parts : (i : ℕ) (e : E) → entry_right le home get note x d xs i e ≡ true → Right i e
    slot_parts i e t =
        let a = and_parts _ _ t in
        let b = and_parts _ _ a.1 in
        let c = and_parts _ _ b.1 in
        record {
          within = ltb-true _ _ a.0;
          expected = expects_some _ e b.0;
          noted = eqb-true _ i c.0;
          fits = λ z. ⊎_elim (λ (top : eqb i 0 ≡ true). absurd (omega (arith, eqb-true i 0 top))) (λ f. f) (or_cases _ _ c.1);
        }

    parts_slot : (i : ℕ) (e : E) → Right i e → entry_right le home get note x d xs i e ≡ true
    parts_slot i e r = and_from _ _ (lt-ltb _ _ r.within) (and_from _ _ (some_expects _ e r.expected) (and_from _ _ (eq-eqb _ i r.noted)
        (⊎_elim (λ z. or_left (eqb i 0) _ (eq-eqb i 0 z)) (λ nz. or_right (eqb i 0) _ (r.fits (omega arith))) (cases_eq i 0))))

    -- what the test of a home says
    home_parts : (n h : ℕ) (e : E) → x h ≡ Some e → home_right home get note x n d xs h ≡ true
        → (note (get_or xs h d) < n) × (home (get (get_or xs (note (get_or xs h d)) d)) ≡ h)
    home_parts n h e is t =
        let u : names_home home get n d xs h (note (get_or xs h d)) ≡ true = rw is at t in
        let b = and_parts _ _ u in
        (ltb-true _ n b.0, eqb-true _ h b.1)

    parts_home : (n h : ℕ) → ((e : E) → x h ≡ Some e → (note (get_or xs h d) < n) × (home (get (get_or xs (note (get_or xs h d)) d)) ≡ h))
        → home_right home get note x n d xs h ≡ true
    parts_home n h parts = go (x h) refl
      where
        go : (o : Option E) → x h ≡ o → home_right home get note x n d xs h ≡ true
        go None e = rw e
        go (Some y) e = let b = parts y e in rw e (and_from _ _ (lt-ltb _ n b.0) (eq-eqb _ h b.1))

    -- where every slot and every home passes, the queue holds what is expected
    right_holds : (n : ℕ) → n ≤ length xs → ((h : ℕ) → length xs ≤ h → x h ≡ None) → all_right le home get note x n d xs ≡ true → Holds le home get note x n xs
    right_holds n ln past t = record {
      rule = record { filled = ln; heap = heap };
      notes = λ d' r i l.
          let e = at i (omega arith) d' in
          let s = slot i l in
          let w : home (entry_at get xs d' i) < length xs = subst (λ (y : E). home y < length xs) (sym e) s.within in
          (w, get_d_default_note r d _ w ∙ ap (λ (y : E). note (get_or xs (home y) d)) e ∙ s.noted);
      right = λ d' i l. subst (λ (y : E). x (home y) ≡ Some y) (sym (at i (omega arith) d')) (slot i l).expected;
      all = λ h e is. ⊎_elim
          (λ w.
          let p = home_parts n h e is (every_each _ _ both.1 h w) in
          record {
            within = w;
            used = λ r. omega (arith, get_d_default_note r d h w, p.0);
            names = λ d' r. ap (λ (s : ℕ). home (entry_at get xs d' s)) (get_d_default_note r d h w) ∙ ap home (at _ (omega (arith, p.0)) d') ∙ p.1;
          })
          (λ beyond. absurd (none_some (x h) e (past h beyond) is))
          (cases_lt h (length xs));
    }
      where
        both : (every (slot_right le home get note x d xs) n ≡ true) × (every (home_right home get note x n d xs) (length xs) ≡ true)
        both = and_parts _ _ t

        slot : (i : ℕ) → i < n → Right i (get (get_or xs i d))
        slot i l = slot_parts i (get (get_or xs i d)) (every_each _ n both.0 i l)

        get_d_default_note : (r r' : R) (a : ℕ) → a < length xs → note (get_or xs a r) ≡ note (get_or xs a r')
        get_d_default_note r r' a l = ap note (get_or_default xs a r r' l)

        heap : Heap le (entries get n xs)
        heap d' i z l =
            let li : i < n = omega (arith, length-take n (map get xs)) in
            let lp : parent_slot i < n = omega arith in
            subst (λ (y : E). le y (get_or (entries get n xs) i d') ≡ true) (sym (at_entries n (parent_slot i) ln lp d'))
            (subst (λ (y : E). le (get (get_or xs (parent_slot i) d)) y ≡ true) (sym (at_entries n i ln li d')) ((slot i li).fits z))

    -- where the queue holds what is expected, every slot and every home passes
    holds_right : (n : ℕ) → Holds le home get note x n xs → all_right le home get note x n d xs ≡ true
    holds_right n H = and_from _ _
        (each_every _ n (λ i l. parts_slot i (get (get_or xs i d)) (slot i l)))
        (each_every _ (length xs) (λ h w. parts_home n h (λ e is.
        let P = H.all h e is in
        (P.used d, sym (ap home (at _ (omega (arith, P.used d, H.rule.filled)) (get d))) ∙ P.names (get d) d))))
      where
        slot : (i : ℕ) → i < n → Right i (get (get_or xs i d))
        slot i l =
            let li : i < length xs = omega (arith, H.rule.filled) in
            let e = at i li (get d) in
            record {
              within = subst (λ (y : E). home y < length xs) e (H.notes (get d) d i l).0;
              expected = subst (λ (y : E). x (home y) ≡ Some y) e (H.right (get d) i l);
              noted = subst (λ (y : E). note (get_or xs (home y) d) ≡ i) e (H.notes (get d) d i l).1;
              fits = λ z.
                  let lp : parent_slot i < n = omega arith in
                  subst (λ (y : E). le (get (get_or xs (parent_slot i) d)) y ≡ true) (at_entries n i H.rule.filled l (get d))
                  (subst (λ (y : E). le y (get_or (entries get n xs) i (get d)) ≡ true) (at_entries n (parent_slot i) H.rule.filled lp (get d))
                  (H.rule.heap (get d) i z (omega (arith, length-take n (map get xs), length-map xs get, H.rule.filled))));
            }

  -- the law of the check, one way
  pub roster_holds : (xs : List R) → ((h : ℕ) → length xs ≤ h → x h ≡ None) → roster_right le home get note x xs ≡ true → Holds le home get note x (expected_count x (length xs)) xs
  roster_holds [] past t = holds_none le home get note [] (λ h. past h (omega arith))
  roster_holds (d ∷ rest) past t = right_holds d (d ∷ rest) _ (expected_count_le x _) past t

  -- and the other way
  pub holds_roster : (n : ℕ) (xs : List R) → Holds le home get note x n xs → roster_right le home get note x xs ≡ true
  holds_roster n [] H = refl
  holds_roster n (d ∷ rest) H = holds_right d (d ∷ rest) _ (subst (λ (m : ℕ). Holds le home get note x m (d ∷ rest)) (holds_count le home get note H) H)

  -- the answers of the check
  module _ (xs : List R) (past : (h : ℕ) → length xs ≤ h → x h ≡ None) (n : ℕ) (counted : n ≡ expected_count x (length xs)) where
    -- what an answer says
    abbrev pub Answered : Option ℕ → Type 0
    Answered o = (o ≡ cond (roster_right le home get note x xs) (Some (expected_count x (length xs))) None) × Decided le home get note x xs o

    refused : roster_right le home get note x xs ≡ false → Answered None
    refused f = (sym (cond-false _ _ _ f), λ m H. both_ways _ f (holds_roster m xs H))

    slot_refused : Tested (λ d. slot_right le home get note x d xs) n false → Answered None
    slot_refused (i, l, fails) = refused (go xs counted l fails)
      where
        go : (ys : List R) → n ≡ expected_count x (length ys) → i < n → ((d : R) → slot_right le home get note x d ys i ≡ false) → roster_right le home get note x ys ≡ false
        go [] is l f = absurd (omega (arith, is))
        go (d ∷ rest) is l f = and_left _ _ (one_fails _ _ i (subst (λ (m : ℕ). i < m) is l) (f d))

    home_refused : Tested (λ d. home_right home get note x n d xs) (length xs) false → Answered None
    home_refused (h, l, fails) = refused (go xs counted l fails)
      where
        go : (ys : List R) → n ≡ expected_count x (length ys) → h < length ys → ((d : R) → home_right home get note x n d ys h ≡ false) → roster_right le home get note x ys ≡ false
        go [] is l f = absurd (omega arith)
        go (d ∷ rest) is l f = and_right _ _ (one_fails _ _ h l (subst (λ (m : ℕ). home_right home get note x m d (d ∷ rest) h ≡ false) is (f d)))

    accepted : Tested (λ d. slot_right le home get note x d xs) n true → Tested (λ d. home_right home get note x n d xs) (length xs) true → Answered (Some n)
    accepted slots homes = (
      ap Some counted ∙ sym (cond-true _ _ _ right),
      subst (λ (m : ℕ). Holds le home get note x m xs) (sym counted) (roster_holds xs past right),
    )
      where
        go : (ys : List R) → n ≡ expected_count x (length ys) → ((k : ℕ) → k < n → (d : R) → slot_right le home get note x d ys k ≡ true)
            → ((k : ℕ) → k < length ys → (d : R) → home_right home get note x n d ys k ≡ true) → roster_right le home get note x ys ≡ true
        go [] is s h = refl
        go (d ∷ rest) is s h = subst (λ (m : ℕ). all_right le home get note x m d (d ∷ rest) ≡ true) is
            (and_from _ _ (each_every _ n (λ k l. s k l d)) (each_every _ _ (λ k l. h k l d)))

        right : roster_right le home get note x xs ≡ true
        right = go xs counted slots homes

    pub slots_answered : (b : Bool) (o : Option ℕ) → Tested (λ d. slot_right le home get note x d xs) n false → b ≡ false → o ≡ then_some b n → Answered o
    slots_answered b o slots is e = rw (e, is) (slot_refused slots)

    pub homes_answered : (b h : Bool) (o : Option ℕ) → Tested (λ d. slot_right le home get note x d xs) n true → Tested (λ d. home_right home get note x n d xs) (length xs) h → b ≡ h → o ≡ then_some b n → Answered o
    homes_answered b h o slots homes is e = rw (e, is) (go h homes)
      where
        go : (h : Bool) → Tested (λ d. home_right home get note x n d xs) (length xs) h → Answered (then_some h n)
        go false homes = home_refused homes
        go true homes = accepted slots homes
