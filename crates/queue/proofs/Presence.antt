-- Which homes have an entry in a queue, by counts.
use Rattle.std.proofs.Common.{◌≡◌, ℕ, ◌+◌, ◌<◌, ◌≤◌, eqb, ◌≢◌, List, map, length, get_or, count_by, sym, refl, ap, ◌∙◌, arith, length-take, get_or-take}
use Rattle.std.proofs.lemmas.List.{length-map}
use Rattle.std.proofs.lemmas.Bool.{eqb-true, eqb-false, eq-eqb, ne_eqb}
use Rattle.queue.specs.Entries.{entries, entry_at, Added, Removed, Replaced}
use Rattle.queue.specs.Notes.{NotesRight, Absent, Present}
use Rattle.queue.proofs.Homes.{named, absent_none, homes_noted}
use Rattle.queue.proofs.Members.{tally, tally_true, tally_false, count_none, none_count, count_some, found_count, count_one, count_added, count_replaced}
use Rattle.queue.proofs.Parts.{some_element}

module _ {R E : Type 0} (home : E → ℕ) (get : R → E) where
  pub count_absent : (n : ℕ) (xs : List R) (h : ℕ) → Absent home get n xs h → count_by (named home h) (entries get n xs) ≡ 0
  count_absent n xs h A = count_none (named home h) (entries get n xs) (absent_none home get n xs h A)

  pub absent_count : (n : ℕ) (xs : List R) (h : ℕ) → n ≤ length xs → count_by (named home h) (entries get n xs) ≡ 0 → Absent home get n xs h
  absent_count n xs h ln z d i l e =
      let long : i < length (entries get n xs) = omega (arith, length-take n (map get xs), length-map xs get) in
      eqb-false (home (get_or (entries get n xs) i d)) h (none_count (named home h) (entries get n xs) z d i long) (ap home (get_or-take n (map get xs) i d l) ∙ e)

  module _ (note : R → ℕ) where
    -- the entry in the slot that a home notes names that home
    pub present_home : (n : ℕ) (xs : List R) (h : ℕ) → Present home get note n xs h → (d : E) (r : R) → home (get_or (entries get n xs) (note (get_or xs h r)) d) ≡ h
    present_home n xs h P d r = ap home (get_or-take n (map get xs) (note (get_or xs h r)) d (P.used r)) ∙ P.names d r

    pub count_present : (n : ℕ) (xs : List R) (h : ℕ) → n ≤ length xs → Present home get note n xs h → 0 < count_by (named home h) (entries get n xs)
    count_present n xs h ln P =
        let r = some_element xs (omega (arith, P.within)) in
        let s : ℕ = note (get_or xs h r) in
        let long : s < length (entries get n xs) = omega (arith, length-take n (map get xs), length-map xs get, P.used r) in
        count_some (named home h) (entries get n xs) (get r) s long
        (eq-eqb _ h (present_home n xs h P (get r) r))

    pub present_count : (n : ℕ) (xs : List R) (h : ℕ) → n ≤ length xs → NotesRight home get note n xs → 0 < count_by (named home h) (entries get n xs) → Present home get note n xs h
    present_count n xs h ln N z =
        let found = found_count (named home h) (entries get n xs) z in
        let i : ℕ = found.0 in
        let l : i < n = omega (arith, found.1, length-take n (map get xs)) in
        let is : (d : E) → home (entry_at get xs d i) ≡ h = λ d. ap home (sym (get_or-take n (map get xs) i d l)) ∙ eqb-true _ h (found.2 d) in
        let r₀ = some_element xs (omega arith) in
        let at : (r : R) → note (get_or xs h r) ≡ i = λ r. ap (λ (x : ℕ). note (get_or xs x r)) (sym (is (get r))) ∙ (N (get r) r i l).1 in
        record {
          within = omega (arith, (N (get r₀) r₀ i l).0, is (get r₀));
          used = λ r. omega (arith, at r);
          names = λ d r. ap (λ (x : ℕ). home (entry_at get xs d x)) (at r) ∙ is d;
        }

    -- the home of an entry of the queue
    pub present_at : (n : ℕ) (xs : List R) (i h : ℕ) → n ≤ length xs → NotesRight home get note n xs → i < n → ((d : E) → home (entry_at get xs d i) ≡ h) → Present home get note n xs h
    present_at n xs i h ln N l is =
        let r = some_element xs (omega arith) in
        let long : i < length (entries get n xs) = omega (arith, length-take n (map get xs), length-map xs get) in
        present_count n xs h ln N
        (count_some (named home h) (entries get n xs) (get r) i long (eq-eqb _ h (ap home (get_or-take n (map get xs) i (get r) l) ∙ is (get r))))

  -- how a call changes which homes have an entry; xs are the slots of n entries before it, ys those of m after it
  module _ (note : R → ℕ) (n m : ℕ) (xs ys : List R) (ln : n ≤ length xs) (lm : m ≤ length ys) where
    -- the entry e came
    module _ (e : E) (A : Added e (entries get n xs) (entries get m ys)) where
      counts : (h : ℕ) → count_by (named home h) (entries get m ys) ≡ count_by (named home h) (entries get n xs) + tally (eqb (home e) h)
      counts h = count_added (named home h) e (entries get n xs) (entries get m ys) A

      pub present_added : NotesRight home get note m ys → Present home get note m ys (home e)
      present_added N = present_count note m ys (home e) lm N (omega (arith, counts (home e), tally_true _ (eq-eqb (home e) (home e) refl)))

      pub present_after_added : (h : ℕ) → NotesRight home get note m ys → Present home get note n xs h → Present home get note m ys h
      present_after_added h N P = present_count note m ys h lm N (omega (arith, counts h, count_present note n xs h ln P))

      pub absent_after_added : (h : ℕ) → home e ≢ h → Absent home get n xs h → Absent home get m ys h
      absent_after_added h ne B = absent_count m ys h lm (omega (arith, counts h, count_absent n xs h B, tally_false _ (ne_eqb (home e) h ne)))

    -- the entry e went
    module _ (e : E) (A : Removed e (entries get n xs) (entries get m ys)) where
      counts_left : (h : ℕ) → count_by (named home h) (entries get n xs) ≡ count_by (named home h) (entries get m ys) + tally (eqb (home e) h)
      counts_left h = count_added (named home h) e (entries get m ys) (entries get n xs) A

      pub absent_removed : NotesRight home get note n xs → Absent home get m ys (home e)
      absent_removed N = absent_count m ys (home e) lm
          (omega (arith, counts_left (home e), tally_true _ (eq-eqb (home e) (home e) refl), count_one (named home (home e)) (entries get n xs) ((homes_noted home get note n xs ln N).own (home e))))

      pub present_after_removed : (h : ℕ) → NotesRight home get note m ys → home e ≢ h → Present home get note n xs h → Present home get note m ys h
      present_after_removed h N ne P =
          present_count note m ys h lm N (omega (arith, counts_left h, count_present note n xs h ln P, tally_false _ (ne_eqb (home e) h ne)))

      pub absent_after_removed : (h : ℕ) → Absent home get n xs h → Absent home get m ys h
      absent_after_removed h B = absent_count m ys h lm (omega (arith, counts_left h, count_absent n xs h B))

    -- the entry e took the place of another of the same home
    module _ (old e : E) (C : Replaced old e (entries get n xs) (entries get m ys)) (same : home old ≡ home e) where
      counts_same : (h : ℕ) → count_by (named home h) (entries get m ys) ≡ count_by (named home h) (entries get n xs)
      counts_same h =
          omega (arith, count_replaced (named home h) old e (entries get n xs) (entries get m ys) C, ap (λ (x : ℕ). tally (eqb x h)) same)

      pub present_after_replaced : (h : ℕ) → NotesRight home get note m ys → Present home get note n xs h → Present home get note m ys h
      present_after_replaced h N P = present_count note m ys h lm N (omega (arith, counts_same h, count_present note n xs h ln P))

      pub absent_after_replaced : (h : ℕ) → Absent home get n xs h → Absent home get m ys h
      absent_after_replaced h B = absent_count m ys h lm (omega (arith, counts_same h, count_absent n xs h B))
