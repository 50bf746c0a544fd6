-- What the calls of an indexed queue need and give, from the queue's own call and the notes written after it.
use Rattle.std.proofs.Common.{◌≡◌, ℕ, ◌+◌, ◌-◌, ◌<◌, ◌≤◌, Bool, List, map, length, get_or, sym, ap, ◌∙◌, ⊎_elim, arith, get_or-take}
use Rattle.std.proofs.lemmas.Bool.{cases_lt}
use Rattle.queue.specs.Calls.{Inserted, RemovedAt, ReplacedAt}
use Rattle.queue.specs.Entries.{entries, entry_at}
use Rattle.queue.specs.Frame.{SameFrom}
use Rattle.queue.specs.Notes.{NotesRight, Absent, Present}
use Rattle.queue.proofs.Homes.{Homes, absent_none, homes_added, homes_removed, homes_replaced, homes_noted, within_slots}
use Rattle.queue.proofs.Parts.{some_element, same_part}

module _ {R E : Type 0} (home : E → ℕ) (get : R → E) (note : R → ℕ) (le : E → E → Bool) where
  -- the slot that a home notes, by any default
  pub slot_used : (n : ℕ) (xs : List R) (h s : ℕ) → Present home get note n xs h → ((r : R) → note (get_or xs h r) ≡ s) → s < n
  slot_used n xs h s P at = let r = some_element xs (omega (arith, P.within)) in omega (arith, P.used r, at r)

  slot_named : (n : ℕ) (xs : List R) (h s : ℕ) → Present home get note n xs h → ((r : R) → note (get_or xs h r) ≡ s) → (d : E) → home (entry_at get xs d s) ≡ h
  slot_named n xs h s P at d =
      let r = some_element xs (omega (arith, P.within)) in
      ap (λ (i : ℕ). home (entry_at get xs d i)) (sym (at r)) ∙ P.names d r

  pub homes_inserted : (n : ℕ) (e : E) (xs ys : List R) → n ≤ length xs → NotesRight home get note n xs → home e < length xs → Absent home get n xs (home e)
      → Inserted le e (entries get n xs) (entries get (n + 1) ys) → Homes home (length xs) (entries get (n + 1) ys)
  homes_inserted n e xs ys ln N l A I =
      homes_added home (length xs) e (entries get n xs) (entries get (n + 1) ys) I.change (homes_noted home get note n xs ln N) l (absent_none home get n xs (home e) A)

  pub homes_removed_at : (n i : ℕ) (xs ys : List R) → n ≤ length xs → NotesRight home get note n xs → i < n
      → RemovedAt le i (entries get n xs) (entries get (n - 1) ys) → Homes home (length xs) (entries get (n - 1) ys)
  homes_removed_at n i xs ys ln N l I =
      let d = get (some_element xs (omega arith)) in
      homes_removed home (length xs) (get_or (entries get n xs) i d) (entries get n xs) (entries get (n - 1) ys) (I.change d) (homes_noted home get note n xs ln N)

  pub homes_replaced_at : (n h s : ℕ) (e : E) (xs ys : List R) → n ≤ length xs → NotesRight home get note n xs → Present home get note n xs h → ((r : R) → note (get_or xs h r) ≡ s) → home e ≡ h
      → ReplacedAt le s e (entries get n xs) (entries get n ys) → Homes home (length xs) (entries get n ys)
  homes_replaced_at n h s e xs ys ln N P at eh I =
      let d = get (some_element xs (omega (arith, P.within))) in
      let old : home (get_or (entries get n xs) s d) ≡ h = ap home (get_or-take n (map get xs) s d (slot_used n xs h s P at)) ∙ slot_named n xs h s P at d in
      homes_replaced home (length xs) (get_or (entries get n xs) s d) e (entries get n xs) (entries get n ys) (I.change d) (homes_noted home get note n xs ln N)
      (eh ∙ sym old) (omega (arith, P.within))

  -- the entries on the path of slot k have homes
  pub path_homes : (n k : ℕ) (xs ys : List R) → length ys ≡ length xs → n ≤ length xs → Homes home (length xs) (entries get n ys) → k < n
      → (d : E) (i : ℕ) → i ≤ k → home (entry_at get ys d i) < length ys
  path_homes n k xs ys long ln H lk d i l = omega (arith, within_slots home get n (length xs) ys (omega arith) H d i (omega arith))

  -- also where the last entry went, and slot 0 is no longer used
  pub path_homes_removed : (n k : ℕ) (xs ys : List R) → length ys ≡ length xs → n ≤ length xs → 0 < n → NotesRight home get note n xs → SameFrom (n - 1) xs ys
      → Homes home (length xs) (entries get (n - 1) ys) → k ≤ n - 2
      → (d : E) (i : ℕ) → i ≤ k → home (entry_at get ys d i) < length ys
  path_homes_removed n k xs ys long ln z N same H lk d i l = ⊎_elim
      (λ more. path_homes (n - 1) k xs ys long (omega arith) H (omega arith) d i l)
      (λ one.
      let kept : entry_at get ys d i ≡ entry_at get xs d i = same_part get xs ys i long (λ r. ap get (same r i (omega arith))) d in
      omega (arith, ap home kept, (N d (some_element xs (omega arith)) i (omega arith)).0))
      (cases_lt 0 (n - 1))
