-- The homes of the entries of a queue: in range, and each entry's own.
use Rattle.std.proofs.Common.{◌≡◌, ℕ, ◌<◌, ◌≤◌, Bool, eqb, leb, List, map, length, get_or, sym, ap, ◌∙◌, subst, arith, length-take, get_or-take}
use Rattle.std.proofs.lemmas.List.{length-map}
use Rattle.std.proofs.lemmas.Bool.{eqb-true, eq-eqb, ne_eqb, leb-false, lt-leb}
use Rattle.queue.specs.Entries.{entries, entry_at, Added, Removed, Replaced}
use Rattle.queue.specs.Notes.{NotesRight, Absent}
use Rattle.queue.specs.Noting.{OwnHomes}
use Rattle.queue.proofs.Parts.{some_element}
use Rattle.queue.proofs.Members.{NonePass, OnePasses, none_added, none_removed, none_replaced, one_added, one_removed, one_replaced}

module _ {E : Type 0} (home : E → ℕ) where
  -- the entry names the home x
  abbrev pub named : ℕ → E → Bool
  named x e = eqb (home e) x

  -- the entry names no home below m
  abbrev pub outside : ℕ → E → Bool
  outside m e = leb m (home e)

  -- every entry has a home below m, and no two the same
  pub record Homes (m : ℕ) (es : List E) : Type 0 where
    pub within : NonePass (outside m) es
    pub own : (x : ℕ) → OnePasses (named x) es

  pub homes_added : (m : ℕ) (e : E) (es es' : List E) → Added e es es' → Homes m es → home e < m → NonePass (named (home e)) es → Homes m es'
  homes_added m e es es' A H l new = record {
    within = none_added (outside m) e es es' A H.within (lt-leb m (home e) l);
    own = λ x. one_added (named x) e es es' A (H.own x) (λ t. subst (λ (y : ℕ). NonePass (named y) es) (eqb-true (home e) x t) new);
  }

  pub homes_removed : (m : ℕ) (e : E) (es es' : List E) → Removed e es es' → Homes m es → Homes m es'
  homes_removed m e es es' A H = record {
    within = none_removed (outside m) e es es' A H.within;
    own = λ x. one_removed (named x) e es es' A (H.own x);
  }

  pub homes_replaced : (m : ℕ) (old e : E) (es es' : List E) → Replaced old e es es' → Homes m es → home e ≡ home old → home e < m → Homes m es'
  homes_replaced m old e es es' C H same l = record {
    within = none_replaced (outside m) old e es es' C H.within (lt-leb m (home e) l);
    own = λ x. one_replaced (named x) old e es es' C (ap (λ (y : ℕ). eqb y x) same) (H.own x);
  }

  module _ {R : Type 0} (get : R → E) where
    used_slot : (n : ℕ) (xs : List R) (i : ℕ) → i < length (entries get n xs) → i < n
    used_slot n xs i l = omega (arith, length-take n (map get xs))

    slot_used : (n : ℕ) (xs : List R) (i : ℕ) → n ≤ length xs → i < n → i < length (entries get n xs)
    slot_used n xs i ln l = omega (arith, length-take n (map get xs), length-map xs get)

    same_home : (n : ℕ) (xs : List R) (d : E) (i : ℕ) → i < n → home (get_or (entries get n xs) i d) ≡ home (entry_at get xs d i)
    same_home n xs d i l = ap home (get_or-take n (map get xs) i d l)

    pub absent_none : (n : ℕ) (xs : List R) (h : ℕ) → Absent home get n xs h → NonePass (named h) (entries get n xs)
    absent_none n xs h A d i l =
        let li : i < n = used_slot n xs i l in
        ne_eqb _ h (λ e. A d i li (sym (same_home n xs d i li) ∙ e))

    pub homes_of_slots : (n m : ℕ) (xs : List R) → ((d : E) (i : ℕ) → i < n → home (entry_at get xs d i) < m) → OwnHomes home get n xs → Homes m (entries get n xs)
    homes_of_slots n m xs inside own = record {
      within = λ d i l. let li : i < n = used_slot n xs i l in lt-leb m _ (omega (arith, inside d i li, same_home n xs d i li));
      own = λ x d i j l l' t t'.
          let li : i < n = used_slot n xs i l in
          let lj : j < n = used_slot n xs j l' in
          own d i j li lj (sym (same_home n xs d i li) ∙ eqb-true _ x t ∙ sym (eqb-true _ x t') ∙ same_home n xs d j lj);
    }

    pub within_slots : (n m : ℕ) (xs : List R) → n ≤ length xs → Homes m (entries get n xs) → (d : E) (i : ℕ) → i < n → home (entry_at get xs d i) < m
    within_slots n m xs ln H d i l = omega (arith, leb-false m _ (H.within d i (slot_used n xs i ln l)), same_home n xs d i l)

    pub own_slots : (n m : ℕ) (xs : List R) → n ≤ length xs → Homes m (entries get n xs) → OwnHomes home get n xs
    own_slots n m xs ln H d i j li lj e =
        let x : ℕ = home (entry_at get xs d i) in
        H.own x d i j (slot_used n xs i ln li) (slot_used n xs j ln lj)
        (eq-eqb _ x (same_home n xs d i li)) (eq-eqb _ x (same_home n xs d j lj ∙ sym e))

    -- right notes tell the entries' homes apart
    pub homes_noted : (note : R → ℕ) (n : ℕ) (xs : List R) → n ≤ length xs → NotesRight home get note n xs → Homes (length xs) (entries get n xs)
    homes_noted note n xs ln N = homes_of_slots n (length xs) xs
        (λ d i l. (N d (some_element xs (omega arith)) i l).0)
        (λ d i j li lj e.
        let r = some_element xs (omega arith) in
        sym (N d r i li).1 ∙ ap (λ (k : ℕ). note (get_or xs k r)) e ∙ (N d r j lj).1)
