-- The entry in slot 0 of a heap is at most every entry.
use Rattle.std.proofs.Common.{◌≡◌, ℕ, zero, suc, ◌<◌, ◌≤◌, Bool, true, List, map, length, take, get_or, Some, None, Option, sym, ap, ◌∙◌, subst, ⊎_elim, arith, length-take, get_or-take}
use Rattle.std.specs.List.{HoldsAt, ContainsAt as Has}
use Rattle.std.specs.Option.{MatchOption, IsSomeAnd}
use denote.Ref.{Bor}
use Rattle.std.proofs.lemmas.Bool.{cases_eq}
use Rattle.queue.specs.Calls.{Head, HeadEntry}
use Rattle.queue.specs.Entries.{entries, entry_at}
use Rattle.queue.specs.Heap.{Heap, parent_slot}
use Rattle.queue.specs.Order.{Ordered}
use Rattle.std.proofs.lemmas.List.{get_or-map, length-map}
use Rattle.queue.proofs.Holes.{at_most_self}

-- entries as a function of the slot: by steps up to the root
root_least : {E : Type 0} (le : E → E → Bool) → Ordered le → (at : ℕ → E) (n : ℕ) → ((i : ℕ) → 0 < i → i < n → le (at (parent_slot i)) (at i) ≡ true)
    → (bound i : ℕ) → i < bound → i < n → le (at 0) (at i) ≡ true
root_least le ord at n H zero i l ln = absurd (omega arith)
root_least le ord at n H (suc b) i l ln = ⊎_elim
    (λ z. rw z (at_most_self le ord (at 0)))
    (λ nz. ord.trans _ _ _ (root_least le ord at n H b (parent_slot i) (omega arith) (omega arith)) (H i (omega arith) ln))
    (cases_eq i 0)

-- the first entry of a heap is at most every entry
pub heap_least : {E : Type 0} (le : E → E → Bool) → Ordered le → (es : List E) → Heap le es → (d : E) (i : ℕ) → i < length es → le (get_or es 0 d) (get_or es i d) ≡ true
heap_least le ord es H d i l = root_least le ord (λ j. get_or es j d) (length es) (H d) (length es) i l l

module _ {R E : Type 0} (get : R → E) (le : E → E → Bool) (ord : Ordered le) where
  pub head_of : (n : ℕ) (xs : List R) (e : E) → 0 < n → n ≤ length xs → ((d : E) → entry_at get xs d 0 ≡ e) → HeadEntry le n (entries get n xs) e
  head_of n xs e z ln first =
      let stands : (d : E) → get_or (entries get n xs) 0 d ≡ e = λ d. get_or-take n (map get xs) 0 d z ∙ first d in
      let long : length (entries get n xs) ≡ n = omega (arith, length-take n (map get xs), length-map xs get) in
      record {
        used = z;
        stands = stands;
        least = λ H d i l. subst (λ (x : E). le x (get_or (entries get n xs) i d) ≡ true) (stands d) (heap_least le ord (entries get n xs) H d i (omega arith));
      }

  -- what a chain reads of the first record, if there is one
  pub head_read : (n : ℕ) (xs : List R) (o : Option (Bor R)) (r : Option E) (P : Bor R → E → Type 0) → n ≤ length xs
      → MatchOption o (length (take n xs) ≤ 0) (λ x. (0 < length (take n xs)) × HoldsAt (λ y. x.now ≡ y) (take n xs) 0)
      → MatchOption o (r ≡ None) (λ x. IsSomeAnd r (P x)) → ((x : Bor R) (e : E) → P x e → e ≡ get x.now)
      → Head le n (entries get n xs) r
  head_read n xs None r P ln none is read = rw is (omega (arith, none, length-take n xs))
  head_read n xs (Some x) None P ln some is read = elim is [ ]
  head_read n xs (Some x) (Some e) P ln some is read =
      let used : 0 < n = omega (arith, some.0, length-take n xs) in
      head_of n xs e used ln (λ d. get_or-map get xs 0 x.now d (omega arith) ∙ ap get (sym (get_or-take n xs 0 x.now used) ∙ sym (some.1 x.now)) ∙ sym (read x e is))

-- the head of a queue that holds exactly a set is the least of the set
pub head_of_set : {E : Type 0} (le : E → E → Bool) (n : ℕ) (es : List E) (e : E) (P : E → Type 0) → length es ≡ n → Heap le es → HeadEntry le n es e
    → ((x : E) → Has es x → P x) → ((x : E) → P x → Has es x) → P e × ((x : E) → P x → le e x ≡ true)
head_of_set {E} le n es e P long H F holds held = (
  holds e (0, omega (arith, F.used), F.stands),
  λ x p. let h = held x p in subst (λ (y : E). le e y ≡ true) (h.2 x) (F.least H x h.0 (omega (arith, h.1))),
)
