-- Parts of records: what a queue call keeps of every part that is not its own. Two queues in one record do not disturb each other.
use Rattle.std.proofs.Common.{◌≡◌, ℕ, ◌<◌, ◌≤◌, Bool, List, [], ◌∷◌, map, length, get_or, take, set, sym, ap, ◌∙◌, subst, ⊎_elim, arith}
use lib.Seq.{map-set_same}
use Rattle.std.proofs.lemmas.List.{get_or-map, get_or_past, length-map, same_lists}
use Rattle.std.proofs.lemmas.Bool.{cases_lt}
use Rattle.queue.specs.Entries.{entries, entry_at}
use Rattle.queue.specs.Frame.{Frame}
use Rattle.queue.specs.Heap.{Heap}
use Rattle.queue.specs.Notes.{NotesRight, IndexedFrame}

-- some element of a list that has one
pub some_element : {R : Type 0} (xs : List R) → 0 < length xs → R
some_element [] z = absurd (omega arith)
some_element (x ∷ xs) z = x

module _ {R X : Type 0} (part : R → X) where
  -- a part that a record keeps, by any default
  pub same_part : (xs ys : List R) (a : ℕ) → length ys ≡ length xs → ((r : R) → part (get_or ys a r) ≡ part (get_or xs a r)) → (d : X) → get_or (map part ys) a d ≡ get_or (map part xs) a d
  same_part xs ys a long same d = ⊎_elim
      (λ l.
      let r = some_element xs (omega arith) in
      let l' : a < length ys = omega arith in
      get_or-map part ys a r d l' ∙ same r ∙ sym (get_or-map part xs a r d l))
      (λ past.
      let py : length (map part ys) ≤ a = omega (arith, length-map ys part) in
      let px : length (map part xs) ≤ a = omega (arith, length-map xs part) in
      get_or_past (map part ys) a d py ∙ sym (get_or_past (map part xs) a d px))
      (cases_lt a (length xs))

  -- every record keeps the part
  pub same_parts : (xs ys : List R) → length ys ≡ length xs → ((r : R) (a : ℕ) → part (get_or ys a r) ≡ part (get_or xs a r)) → map part ys ≡ map part xs
  same_parts xs ys long same =
      same_lists (map part ys) (map part xs) (length-map ys part ∙ long ∙ sym (length-map xs part)) (λ a d l. same_part xs ys a long (λ r. same r a) d)

  -- a write to one record that leaves its part leaves all parts
  pub part_set : (xs : List R) (a : ℕ) (r r' : R) → part r' ≡ part (get_or xs a r) → map part (set xs a r') ≡ map part xs
  part_set xs a r r' e = map-set_same part xs a r' r e

  -- a call of a queue keeps what writing the queue's entry keeps
  pub part_kept : {E : Type 0} (get : R → E) (put : R → E → R) (k : ℕ) (xs ys : List R) → Frame get put k xs ys → ((r : R) (e : E) → part (put r e) ≡ part r) → map part ys ≡ map part xs
  part_kept get put k xs ys F keeps = same_parts xs ys F.same_length (λ r a. ap part (F.only_entry r a) ∙ keeps (get_or xs a r) (get (get_or ys a r)))

  -- a call of an indexed queue keeps what writing the queue's entry and its note keep
  pub part_kept_indexed : {E : Type 0} (home : E → ℕ) (get : R → E) (put : R → E → R) (note : R → ℕ) (jot : R → ℕ → R) (k : ℕ) (xs ys : List R)
      → IndexedFrame home get put note jot k xs ys → ((r : R) (e : E) → part (put r e) ≡ part r) → ((r : R) (m : ℕ) → part (jot r m) ≡ part r) → map part ys ≡ map part xs
  part_kept_indexed home get put note jot k xs ys F keeps keeps' =
      same_parts xs ys F.same_length (λ r a. ap part (F.only_queue r a) ∙ keeps' (put (get_or xs a r) (get (get_or ys a r))) (note (get_or ys a r)) ∙ keeps (get_or xs a r) (get (get_or ys a r)))

module _ {R E : Type 0} (get : R → E) (n : ℕ) (xs ys : List R) (same : map get ys ≡ map get xs) where
  -- where every record keeps its entry, the queue keeps its entries
  pub entries_kept : entries get n ys ≡ entries get n xs
  entries_kept = ap (take n) same

  -- and its rule
  pub heap_kept : (le : E → E → Bool) → Heap le (entries get n xs) → Heap le (entries get n ys)
  heap_kept le H = subst (Heap le) (sym entries_kept) H

  -- and, where every record keeps its note as well, its notes
  pub notes_right_kept : (home : E → ℕ) (note : R → ℕ) → length ys ≡ length xs → ((r : R) (a : ℕ) → note (get_or ys a r) ≡ note (get_or xs a r)) → NotesRight home get note n xs → NotesRight home get note n ys
  notes_right_kept home note long noted N d r i l =
      let at : home (entry_at get ys d i) ≡ home (entry_at get xs d i) = ap (λ (es : List E). home (get_or es i d)) same in
      (omega (arith, (N d r i l).0), noted r (home (entry_at get ys d i)) ∙ ap (λ (a : ℕ). note (get_or xs a r)) at ∙ (N d r i l).1)
