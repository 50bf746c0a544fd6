-- A queue that holds its expectations has as many entries as homes are expected.
use Rattle.std.proofs.Common.{◌≡◌, ℕ, zero, suc, ◌+◌, ◌<◌, ◌≤◌, Bool, true, eqb, ltb, List, [], ◌∷◌, map, length, get_or, is_some, Some, None, count_by, Option, sym, refl, ap, ◌∙◌, ⊎_elim, arith, length-take}
use Rattle.std.proofs.lemmas.List.{length-map}
use Rattle.std.proofs.lemmas.Bool.{cases_eq, cases_lt, lt-ltb, le-ltb, eq-eqb, ne_eqb, leb-false}
use Rattle.std.specs.List.{range_with_len}
use Rattle.queue.specs.Entries.{entries}
use Rattle.queue.proofs.Homes.{named, homes_noted}
use Rattle.queue.proofs.Members.{tally, tally_true, tally_false, count_cons, count_one}
use Rattle.queue.proofs.Presence.{count_absent, count_present}
use Rattle.roster.specs.Holds.{Holds, expected_count}
use Rattle.roster.proofs.Holding.{holds_absent}

-- every entry passes
pub count_all : {E : Type 0} (p : E → Bool) (es : List E) → ((d : E) (i : ℕ) → i < length es → p (get_or es i d) ≡ true) → count_by p es ≡ length es
count_all p [] H = refl
count_all p (y ∷ ys) H =
    omega (arith, count_cons p y ys, tally_true (p y) (H y 0 (omega arith)), count_all p ys (λ d i l. H d (suc i) (omega arith)))

module _ {E : Type 0} (home : E → ℕ) where
  -- the entry names a home below m
  abbrev below : ℕ → E → Bool
  below m e = ltb (home e) m

  tally_below : (a m : ℕ) → tally (ltb a (suc m)) ≡ tally (ltb a m) + tally (eqb a m)
  tally_below a m = ⊎_elim
      (λ e. omega (arith, tally_true _ (lt-ltb a (suc m) (omega arith)), tally_false _ (le-ltb a m (omega arith)), tally_true _ (eq-eqb a m e)))
      (λ ne. ⊎_elim
      (λ l. omega (arith, tally_true _ (lt-ltb a (suc m) (omega arith)), tally_true _ (lt-ltb a m l), tally_false _ (ne_eqb a m ne)))
      (λ g. omega (arith, tally_false _ (le-ltb a (suc m) (omega arith)), tally_false _ (le-ltb a m g), tally_false _ (ne_eqb a m ne)))
      (cases_lt a m))
      (cases_eq a m)

  count_below : (m : ℕ) (es : List E) → count_by (below (suc m)) es ≡ count_by (below m) es + count_by (named home m) es
  count_below m [] = refl
  count_below m (y ∷ ys) =
      omega (arith, count_cons (below (suc m)) y ys, count_cons (below m) y ys, count_cons (named home m) y ys, tally_below (home y) m, count_below m ys)

  count_below_zero : (es : List E) → count_by (below 0) es ≡ 0
  count_below_zero [] = refl
  count_below_zero (y ∷ ys) = omega (arith, count_cons (below 0) y ys, tally_false _ (le-ltb (home y) 0 (omega arith)), count_below_zero ys)

-- the count over the list of the homes
counted_from : {E : Type 0} (x : ℕ → Option E) (a n : ℕ) → expected_count x a + count_by (λ h. is_some (x h)) (range_with_len a n) ≡ expected_count x (a + n)
counted_from x a zero = let e : a + 0 ≡ a = omega arith in omega (arith, ap (expected_count x) e)
counted_from x a (suc n) =
    let e : a + suc n ≡ suc a + n = omega arith in
    let s : a + 1 ≡ suc a = omega arith in
    omega (
      arith,
      ap (expected_count x) e,
      ap (λ (b : ℕ). count_by (λ h. is_some (x h)) (range_with_len b n)) s,
      count_cons (λ h. is_some (x h)) a (range_with_len (a + 1) n),
      counted_from x (suc a) n,
    )

pub expected_counted : {E : Type 0} (x : ℕ → Option E) (n : ℕ) → count_by (λ h. is_some (x h)) (range_with_len 0 n) ≡ expected_count x n
expected_counted x n = let e : 0 + n ≡ n = omega arith in omega (arith, counted_from x 0 n, ap (expected_count x) e)

-- homes that are not expected make the count smaller
pub expected_count_le : {E : Type 0} (x : ℕ → Option E) (m : ℕ) → expected_count x m ≤ m
expected_count_le x zero = omega arith
expected_count_le x (suc m) = go (x m) refl (expected_count_le x m)
  where
    go : (o : Option _) → x m ≡ o → expected_count x m ≤ m → expected_count x (suc m) ≤ suc m
    go None e l = rw e (omega arith)
    go (Some y) e l = rw e (omega arith)

pub expected_count_lt : {E : Type 0} (x : ℕ → Option E) (m h : ℕ) → h < m → x h ≡ None → expected_count x m < m
expected_count_lt x zero h l e = absurd (omega arith)
expected_count_lt {E} x (suc m) h l e = ⊎_elim
    (λ (same : h ≡ m). rw (ap x (sym same) ∙ e) (omega (arith, expected_count_le x m)))
    (λ other. go (x m) refl (expected_count_lt x m h (omega arith) e))
    (cases_eq h m)
  where
    go : (o : Option E) → x m ≡ o → expected_count x m < m → expected_count x (suc m) < suc m
    go None e l = rw e (omega arith)
    go (Some y) e l = rw e (omega arith)

-- expectations that agree have the same count
pub expected_count_same : {E : Type 0} (x y : ℕ → Option E) (m : ℕ) → ((h : ℕ) → h < m → x h ≡ y h) → expected_count x m ≡ expected_count y m
expected_count_same x y zero same = refl
expected_count_same x y (suc m) same =
    omega (arith, expected_count_same x y m (λ h l. same h (omega arith)), ap (λ (o : Option _). tally (is_some o)) (same m (omega arith)))

module _ {R E : Type 0} (le : E → E → Bool) (home : E → ℕ) (get : R → E) (note : R → ℕ) {x : ℕ → Option E} {n : ℕ} {xs : List R} (H : Holds le home get note x n xs) where
  -- a home has as many entries as are expected of it
  count_home : (h : ℕ) → tally (is_some (x h)) ≡ count_by (named home h) (entries get n xs)
  count_home h = go (x h) refl
    where
      go : (o : Option E) → x h ≡ o → tally (is_some (x h)) ≡ count_by (named home h) (entries get n xs)
      go None e = rw e (sym (count_absent home get n xs h (holds_absent le home get note H h e)))
      go (Some y) e =
          let some : 0 < count_by (named home h) (entries get n xs) = count_present home get note n xs h H.rule.filled (H.all h y e) in
          let one : count_by (named home h) (entries get n xs) ≤ 1 = count_one (named home h) (entries get n xs) ((homes_noted home get note n xs H.rule.filled H.notes).own h) in
          rw e (omega arith)

  count_homes : (m : ℕ) → expected_count x m ≡ count_by (below home m) (entries get n xs)
  count_homes zero = sym (count_below_zero home (entries get n xs))
  count_homes (suc m) = omega (arith, count_homes m, count_home m, count_below home m (entries get n xs))

  -- the queue has as many entries as homes are expected
  pub holds_count : n ≡ expected_count x (length xs)
  holds_count =
      let long : length (entries get n xs) ≡ n = omega (arith, length-take n (map get xs), length-map xs get, H.rule.filled) in
      omega (
        arith,
        count_homes (length xs),
        count_all (below home (length xs)) (entries get n xs)
            (λ d i l. lt-ltb _ _ (omega (arith, leb-false _ _ ((homes_noted home get note n xs H.rule.filled H.notes).within d i l)))),
      )

  -- a record that is not expected leaves room
  pub holds_room : (h : ℕ) → h < length xs → x h ≡ None → n < length xs
  holds_room h l none = omega (arith, holds_count, expected_count_lt x (length xs) h l none)

-- two queues that hold the same expectations have the same number of entries
pub holds_one_count : {R E : Type 0} (le : E → E → Bool) (home : E → ℕ) (get : R → E) (note : R → ℕ) {x : ℕ → Option E} {n m : ℕ} {xs ys : List R}
    → Holds le home get note x n xs → Holds le home get note x m ys → length xs ≡ length ys → n ≡ m
holds_one_count le home get note {x} H K long = holds_count le home get note H ∙ ap (expected_count x) long ∙ sym (holds_count le home get note K)
