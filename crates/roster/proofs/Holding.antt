-- What a queue that holds its expectations says of single homes, and that each indexed call keeps it so.
use Rattle.std.proofs.Common.{◌≡◌, ℕ, ◌+◌, ◌-◌, ◌<◌, ◌≤◌, Bool, true, List, map, length, get_or, Some, None, Option, sym, refl, ap, ◌∙◌, subst, ⊎_elim, arith, length-take, get_or-take}
use Rattle.std.specs.List.{ContainsAt as Has}
use Rattle.std.proofs.lemmas.List.{get_or_default, length-map}
use Rattle.std.proofs.lemmas.Bool.{cases_eq}
use Rattle.queue.specs.Calls.{Head, Inserted, RemovedAt, ReplacedAt}
use Rattle.queue.specs.Entries.{entries, entry_at, Removed, Replaced}
use Rattle.queue.specs.Notes.{NotesRight, Absent, Present, IndexedFrame}
use Rattle.queue.specs.Order.{Ordered}
use Rattle.queue.specs.Rule.{QueueRule}
use Rattle.queue.proofs.Members.{has_before_added, has_after_added, has_replaced, has_after_replaced}
use Rattle.queue.proofs.Parts.{some_element}
use Rattle.queue.proofs.Presence.{present_added, present_after_added, absent_removed, present_after_removed, present_after_replaced}
use Rattle.queue.proofs.Rules.{rule_inserted, rule_removed, rule_replaced}
use Rattle.roster.specs.Holds.{Holds, put, LeastExpected}
use Rattle.roster.proofs.Expectations.{none_some, some_same, put_here, put_other, put_cases}

module _ {R E : Type 0} (le : E → E → Bool) (home : E → ℕ) (get : R → E) (note : R → ℕ) where
  -- between slots and the entries of a queue
  slot_has : (n : ℕ) (xs : List R) (d : E) (i : ℕ) → n ≤ length xs → i < n → Has (entries get n xs) (entry_at get xs d i)
  slot_has n xs d i ln l = (
    i,
    omega (arith, length-take n (map get xs), length-map xs get),
    λ d'. get_or-take n (map get xs) i d' l ∙ default d',
  )
    where
      default : (d' : E) → entry_at get xs d' i ≡ entry_at get xs d i
      default d' = get_or_default (map get xs) i d' d (omega (arith, length-map xs get))

  has_slot : (n : ℕ) (xs : List R) (y : E) → Has (entries get n xs) y → (i : ℕ) × (i < n) × ((d : E) → entry_at get xs d i ≡ y)
  has_slot n xs y h =
      let l : h.0 < n = omega (arith, h.1, length-take n (map get xs)) in
      (h.0, l, λ d. sym (get_or-take n (map get xs) h.0 d l) ∙ h.2 d)

  module _ {x : ℕ → Option E} {n : ℕ} {xs : List R} (H : Holds le home get note x n xs) where
    -- a home with no expected entry is absent
    pub holds_absent : (h : ℕ) → x h ≡ None → Absent home get n xs h
    holds_absent h none d i l e = none_some (x h) _ none (ap x (sym e) ∙ H.right d i l)

    -- a home with an expected entry is present
    pub holds_present : (h : ℕ) (e : E) → x h ≡ Some e → Present home get note n xs h
    holds_present = H.all

    -- and that entry stands in the slot that the home notes
    pub holds_at : (h : ℕ) (e : E) → x h ≡ Some e → (d : E) (r : R) → entry_at get xs d (note (get_or xs h r)) ≡ e
    holds_at h e is d r =
        let P = H.all h e is in
        some_same (x h) _ e (ap x (sym (P.names d r)) ∙ H.right d (note (get_or xs h r)) (P.used r)) is

    -- which is then an entry of that home
    pub holds_home : (h : ℕ) (e : E) → x h ≡ Some e → home e ≡ h
    holds_home h e is =
        let P = H.all h e is in
        let r = some_element xs (omega (arith, P.within)) in
        ap home (sym (holds_at h e is e r)) ∙ P.names e r

    -- and is one of the records
    pub holds_within : (h : ℕ) (e : E) → x h ≡ Some e → h < length xs
    holds_within h e is = (H.all h e is).within

    -- and the queue is not empty
    pub holds_used : (h : ℕ) (e : E) → x h ≡ Some e → 0 < n
    holds_used h e is = let P = H.all h e is in omega (arith, P.used (some_element xs (omega (arith, P.within))))

    -- every entry of the queue is the expected one of its home
    holds_has : (y : E) → Has (entries get n xs) y → x (home y) ≡ Some y
    holds_has y h =
        let s = has_slot n xs y h in
        subst (λ (z : E). x (home z) ≡ Some z) (s.2 y) (H.right y s.0 s.1)

    -- of an empty queue nothing is expected
    pub holds_empty : n ≡ 0 → (h : ℕ) → x h ≡ None
    holds_empty empty h = go (x h) refl
      where
        go : (o : Option E) → x h ≡ o → x h ≡ None
        go None e = e
        go (Some e) is = absurd (omega (arith, empty, holds_used h e is))

    -- the head of the queue is the least expected entry
    pub holds_head : (r : Option E) → Head le n (entries get n xs) r → LeastExpected le home x r
    holds_head None empty = holds_empty empty
    holds_head (Some e) F = (
      holds_has e (0, omega (arith, F.used, length-take n (map get xs), length-map xs get, H.rule.filled), F.stands),
      λ h y is.
          let P = H.all h y is in
          let r = some_element xs (omega (arith, P.within)) in
          let at : get_or (entries get n xs) (note (get_or xs h r)) y ≡ y = get_or-take n (map get xs) (note (get_or xs h r)) y (P.used r) ∙ holds_at h y is y r in
          subst (λ (z : E). le e z ≡ true) at (F.least H.rule.heap y (note (get_or xs h r)) (P.used r)),
    )

    -- expectations that agree at every home are interchangeable
    pub holds_same : {y : ℕ → Option E} → ((h : ℕ) → x h ≡ y h) → Holds le home get note y n xs
    holds_same same = record {
      rule = H.rule;
      notes = H.notes;
      right = λ d i l. sym (same _) ∙ H.right d i l;
      all = λ h e is. H.all h e (same h ∙ is);
    }

  -- with nothing expected the empty queue holds
  pub holds_none : {x : ℕ → Option E} (xs : List R) → ((h : ℕ) → x h ≡ None) → Holds le home get note x 0 xs
  holds_none {x} xs none = record {
    rule = record { filled = omega arith; heap = λ d i z l. absurd (omega (arith, length-take 0 (map get xs))) };
    notes = λ d r i l. absurd (omega arith);
    right = λ d i l. absurd (omega arith);
    all = λ h e is. absurd (none_some (x h) e (none h) is);
  }

  module _ (ord : Ordered le) {x : ℕ → Option E} {n : ℕ} {xs ys : List R} {with_entry : R → E → R} {with_note : R → ℕ → R} {k : ℕ} (H : Holds le home get note x n xs) where
    -- after a call of `insert`
    pub holds_inserted : (e : E) → n < length xs → x (home e) ≡ None
        → Inserted le e (entries get n xs) (entries get (n + 1) ys) → NotesRight home get note (n + 1) ys → IndexedFrame home get with_entry note with_note k xs ys
        → Holds le home get note (put x (home e) (Some e)) (n + 1) ys
    holds_inserted e room none I N F = record {
      rule = rule;
      notes = N;
      right = λ d i l. right _ (slot_has (n + 1) ys d i rule.filled l);
      all = λ h y is. ⊎_elim
          (λ here. subst (Present home get note (n + 1) ys) (sym here.0) (present_added home get note n (n + 1) xs ys H.rule.filled rule.filled e I.change N))
          (λ other. present_after_added home get note n (n + 1) xs ys H.rule.filled rule.filled e I.change h N (H.all h y (sym other.1 ∙ is)))
          (put_cases x (home e) (Some e) h);
    }
      where
        rule : QueueRule le get (n + 1) ys
        rule = rule_inserted le get n xs ys F.same_length e room I H.rule

        right : (y : E) → Has (entries get (n + 1) ys) y → put x (home e) (Some e) (home y) ≡ Some y
        right y h = ⊎_elim
            (λ old.
            let is : x (home y) ≡ Some y = holds_has H y old in
            put_other x (home e) (Some e) (home y) (λ same. none_some (x (home y)) y (ap x same ∙ none) is) ∙ is)
            (λ new. put_here x (home e) (Some e) (home y) (ap home new) ∙ ap Some (sym new))
            (has_after_added le ord e (entries get n xs) (entries get (n + 1) ys) I.change y h)

    -- after a call of `remove`
    pub holds_removed : (h : ℕ) (e : E) → x h ≡ Some e
        → ((r : R) → RemovedAt le (note (get_or xs h r)) (entries get n xs) (entries get (n - 1) ys)) → NotesRight home get note (n - 1) ys → IndexedFrame home get with_entry note with_note k xs ys
        → Holds le home get note (put x h None) (n - 1) ys
    holds_removed h e is I N F = record {
      rule = rule;
      notes = N;
      right = λ d i l. right d i l;
      all = λ a y was. ⊎_elim
          (λ here. absurd (none_some (put x h None a) y here.1 was))
          (λ other. present_after_removed home get note n (n - 1) xs ys H.rule.filled rule.filled e gone a N (λ same. other.0 (sym same ∙ holds_home H h e is)) (H.all a y (sym other.1 ∙ was)))
          (put_cases x h None a);
    }
      where
        r₀ : R
        r₀ = some_element xs (omega (arith, holds_within H h e is))

        rule : QueueRule le get (n - 1) ys
        rule = rule_removed le get n xs ys F.same_length (note (get_or xs h r₀)) (I r₀) H.rule

        gone : Removed e (entries get n xs) (entries get (n - 1) ys)
        gone = subst (λ (z : E). Removed z (entries get n xs) (entries get (n - 1) ys))
            (get_or-take n (map get xs) (note (get_or xs h r₀)) e ((H.all h e is).used r₀) ∙ holds_at H h e is e r₀) ((I r₀).change e)

        right : (d : E) (i : ℕ) → i < n - 1 → put x h None (home (entry_at get ys d i)) ≡ Some (entry_at get ys d i)
        right d i l =
            put_other x h None (home (entry_at get ys d i))
            (λ same. absent_removed home get note n (n - 1) xs ys H.rule.filled rule.filled e gone H.notes d i l (same ∙ sym (holds_home H h e is)))
            ∙ holds_has H (entry_at get ys d i)
            (has_before_added le ord e (entries get (n - 1) ys) (entries get n xs) gone (entry_at get ys d i) (slot_has (n - 1) ys d i rule.filled l))

    -- after a call of `replace`
    pub holds_replaced : (h : ℕ) (old e : E) → x h ≡ Some old → home e ≡ h
        → ((r : R) → ReplacedAt le (note (get_or xs h r)) e (entries get n xs) (entries get n ys)) → NotesRight home get note n ys → IndexedFrame home get with_entry note with_note k xs ys
        → Holds le home get note (put x h (Some e)) n ys
    holds_replaced h old e is same I N F = record {
      rule = rule;
      notes = N;
      right = right;
      all = λ a y was. present_after_replaced home get note n n xs ys H.rule.filled rule.filled old e changed (holds_home H h old is ∙ sym same) a N (⊎_elim
          (λ here. subst (Present home get note n xs) (sym here.0) (H.all h old is))
          (λ other. H.all a y (sym other.1 ∙ was))
          (put_cases x h (Some e) a));
    }
      where
        r₀ : R
        r₀ = some_element xs (omega (arith, holds_within H h old is))

        rule : QueueRule le get n ys
        rule = rule_replaced le get n xs ys F.same_length (note (get_or xs h r₀)) e (I r₀) H.rule

        was : (d : E) → get_or (entries get n xs) (note (get_or xs h r₀)) d ≡ old
        was d = get_or-take n (map get xs) (note (get_or xs h r₀)) d ((H.all h old is).used r₀) ∙ holds_at H h old is d r₀

        changed : Replaced old e (entries get n xs) (entries get n ys)
        changed = subst (λ (z : E). Replaced z e (entries get n xs) (entries get n ys)) (was old) ((I r₀).change old)

        before : Has (entries get n xs) old
        before = (
          note (get_or xs h r₀),
          omega (arith, length-take n (map get xs), length-map xs get, H.rule.filled, (H.all h old is).used r₀),
          was,
        )

        -- the slot of the new entry
        new : (i : ℕ) × (i < n) × ((d : E) → entry_at get ys d i ≡ e)
        new = has_slot n ys e (has_replaced le ord old e (entries get n xs) (entries get n ys) changed before)

        noted : (d : E) (i : ℕ) → i < n → home (entry_at get ys d i) ≡ h → note (get_or ys h r₀) ≡ i
        noted d i l at = ap (λ (a : ℕ). note (get_or ys a r₀)) (sym at) ∙ (N d r₀ i l).1

        right : (d : E) (i : ℕ) → i < n → put x h (Some e) (home (entry_at get ys d i)) ≡ Some (entry_at get ys d i)
        right d i l = ⊎_elim
            (λ here.
            let slot : i ≡ new.0 = sym (noted d i l here) ∙ noted d new.0 new.1 (ap home (new.2 d) ∙ same) in
            put_here x h (Some e) _ here ∙ ap Some (sym (ap (entry_at get ys d) slot ∙ new.2 d)))
            (λ other.
            put_other x h (Some e) _ other ∙ ⊎_elim
            (λ kept. holds_has H _ kept)
            (λ is_new. absurd (other (ap home is_new ∙ same)))
            (has_after_replaced le ord old e (entries get n xs) (entries get n ys) changed (entry_at get ys d i) (slot_has n ys d i rule.filled l)))
            (cases_eq (home (entry_at get ys d i)) h)
