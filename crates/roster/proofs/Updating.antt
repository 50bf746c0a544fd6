-- The calls that an update makes: what they require, and what they come to.
use Rattle.std.proofs.Common.{◌≡◌, ℕ, ◌+◌, ◌-◌, ◌<◌, Bool, true, false, List, map, length, get_or, is_some as option_is_some, Some, None, Option, sym, refl, ap, ◌∙◌, subst}
use Rattle.std.proofs.lemmas.Bool.{both_ways}
use Rattle.queue.specs.Calls.{Inserted, RemovedAt, ReplacedAt}
use Rattle.queue.specs.Entries.{entries}
use Rattle.queue.specs.Notes.{NotesRight, IndexedFrame}
use Rattle.queue.specs.Order.{Ordered}
use Rattle.queue.proofs.Parts.{same_parts}
use Rattle.roster.specs.Holds.{Holds, put}
use Rattle.roster.specs.Update.{Updatable, QueueOnly}
use Rattle.roster.proofs.Counting.{holds_room}
use Rattle.roster.proofs.Holding.{holds_used, holds_inserted, holds_removed, holds_replaced}
use Rattle.roster.proofs.Keeping.{holds_kept}

module _ {E : Type 0} where
  pub is_none : (o : Option E) → option_is_some o ≡ false → o ≡ None
  is_none None e = refl
  is_none (Some x) e = absurd (both_ways true e refl)

  pub is_some : (o : Option E) → option_is_some o ≡ true → (x : E) × (o ≡ Some x)
  is_some None e = absurd (both_ways false refl e)
  is_some (Some x) e = (x, refl)

module _ {R E : Type 0} (le : E → E → Bool) (home : E → ℕ) (get : R → E) (note : R → ℕ) {limit n h : ℕ} {was : Bool} {wanted : Option E} {xs : List R} (U : Updatable le home get note limit n h was wanted xs) where
  absent_before : was ≡ false → U.expected h ≡ None
  absent_before off = is_none (U.expected h) (U.before ∙ off)

  pub update_room : was ≡ false → n < length xs
  update_room off = holds_room le home get note U.holds h U.within (absent_before off)

  pub update_used : was ≡ true → 0 < n
  update_used on = let p = is_some (U.expected h) (U.before ∙ on) in holds_used le home get note U.holds h p.0 p.1

-- what was expected of every home but h, and what is wanted of h
abbrev pub Updated : {R E : Type 0} → (E → E → Bool) → (E → ℕ) → (R → E) → (R → ℕ) → ℕ → ℕ → Bool → Option E → List R → ℕ → List R → Type 0
Updated {R} {E} le home get note n h was wanted xs m ys =
    (x : ℕ → Option E) → Holds le home get note x n xs → option_is_some (x h) ≡ was → Holds le home get note (put x h wanted) m ys

module _ {R E : Type 0} (le : E → E → Bool) (ord : Ordered le) (home : E → ℕ) (get : R → E) (note : R → ℕ) (n h : ℕ) (was : Bool) (wanted : Option E) {with_entry : R → E → R} {with_note : R → ℕ → R} {k : ℕ} {xs ys : List R} (F : IndexedFrame home get with_entry note with_note k xs ys) where
  pub updated_inserted : (e : E) → wanted ≡ Some e → was ≡ false → home e ≡ h → h < length xs
      → Inserted le e (entries get n xs) (entries get (n + 1) ys) → NotesRight home get note (n + 1) ys
      → Updated le home get note n h was wanted xs (n + 1) ys
  updated_inserted e is off at within I N x H before =
      let none : x h ≡ None = is_none (x h) (before ∙ off) in
      let P : ℕ → Option E → Type 0 = λ a o. Holds le home get note (put x a o) (n + 1) ys in
      subst (λ (a : ℕ). P a wanted) at (subst (P (home e)) (sym is)
      (holds_inserted le home get note ord H e (holds_room le home get note H h within none) (ap x at ∙ none) I N F))

  pub updated_removed : wanted ≡ None → was ≡ true
      → ((r : R) → RemovedAt le (note (get_or xs h r)) (entries get n xs) (entries get (n - 1) ys)) → NotesRight home get note (n - 1) ys
      → Updated le home get note n h was wanted xs (n - 1) ys
  updated_removed is on I N x H before =
      let old = is_some (x h) (before ∙ on) in
      let P : Option E → Type 0 = λ o. Holds le home get note (put x h o) (n - 1) ys in
      subst P (sym is) (holds_removed le home get note ord H h old.0 old.1 I N F)

  pub updated_replaced : (e : E) → wanted ≡ Some e → was ≡ true → home e ≡ h
      → ((r : R) → ReplacedAt le (note (get_or xs h r)) e (entries get n xs) (entries get n ys)) → NotesRight home get note n ys
      → Updated le home get note n h was wanted xs n ys
  updated_replaced e is on at I N x H before =
      let old = is_some (x h) (before ∙ on) in
      let P : Option E → Type 0 = λ o. Holds le home get note (put x h o) n ys in
      subst P (sym is) (holds_replaced le home get note ord H h old.0 e old.1 at I N F)

-- What an update keeps of every part that is not the queue's.
module _ {R E : Type 0} {get : R → E} {with_entry : R → E → R} {note : R → ℕ} {with_note : R → ℕ → R} {xs ys : List R} (F : QueueOnly get with_entry note with_note xs ys) where
  pub part_kept_only : {X : Type 0} (part : R → X) → ((r : R) (e : E) (m : ℕ) → part (with_note (with_entry r e) m) ≡ part r) → map part ys ≡ map part xs
  part_kept_only part keeps = same_parts part xs ys F.same_length (λ r a. ap part (F.only_queue r a) ∙ keeps (get_or xs a r) _ _)

  pub holds_kept_only : {D : Type 0} (le : D → D → Bool) (home : D → ℕ) (get' : R → D) (note' : R → ℕ) {x : ℕ → Option D} {n : ℕ}
      → ((r : R) (e : E) (m : ℕ) → get' (with_note (with_entry r e) m) ≡ get' r) → ((r : R) (e : E) (m : ℕ) → note' (with_note (with_entry r e) m) ≡ note' r)
      → Holds le home get' note' x n xs → Holds le home get' note' x n ys
  holds_kept_only le home get' note' a b H = holds_kept le home get' note' H (part_kept_only get' a) (part_kept_only note' b)
