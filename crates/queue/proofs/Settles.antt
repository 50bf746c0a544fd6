-- An entry is written where it fits, and what the calls promise of that.
use Rattle.std.proofs.Common.{◌≡◌, ℕ, ◌+◌, ◌<◌, ◌≤◌, Bool, true, List, map, length, get_or, take, set, sum_by, sym, refl, ap, ◌∙◌, subst, arith, length-take, get_or-take}
use Rattle.std.proofs.lemmas.List.{length-map}
use Rattle.std.proofs.lemmas.List.Sums.{sum_by_more}
use Rattle.queue.specs.Calls.{Inserted, RemovedAt, ReplacedAt}
use Rattle.queue.specs.Entries.{entries, entry_at, Replaced}
use Rattle.queue.specs.Frame.{Frame, SameFrom}
use Rattle.queue.specs.Heap.{Heap, parent_slot}
use Rattle.queue.specs.Hole.{Holed, FitsAbove, FitsBelow}
use Rattle.queue.specs.Lens.{Lens}
use Rattle.queue.specs.Order.{Ordered}
use Rattle.queue.specs.Path.{OnPath}
use Rattle.queue.specs.Path.OnPath.{here}
use Rattle.queue.specs.Sift.{HoleMoved, Risen, Sunk}
use Rattle.queue.proofs.Holes.{filled, opened}
use Rattle.queue.proofs.Paths.{on_path_le}
use Rattle.queue.proofs.Writes.{written_at, sum_written, frame_write}

module _ {R E : Type 0} (get : R → E) where
  -- the entries of a queue of n + 1 are those of a queue of n and the one in slot n
  pub sum_last : (f : E → ℕ) (n : ℕ) (xs : List R) (d : E) → n < length xs → sum_by f (entries get (n + 1) xs) ≡ sum_by f (entries get n xs) + f (entry_at get xs d n)
  sum_last f n xs d l = let l' : n < length (map get xs) = rw length-map l in sum_by_more f (map get xs) n d l'

  module _ (le : E → E → Bool) where
    -- the rule, by slots
    abbrev pub HeapAt : ℕ → List R → Type 0
    HeapAt n xs = (d : E) (i : ℕ) → 0 < i → i < n → le (entry_at get xs d (parent_slot i)) (entry_at get xs d i) ≡ true

    pub heap_at : (n : ℕ) (xs : List R) → n ≤ length xs → Heap le (entries get n xs) → HeapAt n xs
    heap_at n xs ln H d i z l =
        let long : i < length (take n (map get xs)) = omega (arith, length-take n (map get xs), length-map xs get) in
        let here' : get_or (take n (map get xs)) i d ≡ get_or (map get xs) i d = get_or-take n (map get xs) i d l in
        let up : get_or (take n (map get xs)) (parent_slot i) d ≡ get_or (map get xs) (parent_slot i) d = get_or-take n (map get xs) (parent_slot i) d (omega arith) in
        rw (← here', ← up) (H d i z long)

    pub heap_from : (n : ℕ) (xs : List R) → HeapAt n xs → Heap le (entries get n xs)
    heap_from n xs H d i z l =
        let short : i < n = omega (arith, length-take n (map get xs)) in
        rw (get_or-take n (map get xs) i d short, get_or-take n (map get xs) (parent_slot i) d (omega arith)) (H d i z short)

    pub heap_fewer : (n m : ℕ) (xs : List R) → m ≤ n → n ≤ length xs → Heap le (entries get n xs) → Heap le (entries get m xs)
    heap_fewer n m xs l ln H = heap_from m xs (λ d i z li. heap_at n xs ln H d i z (omega arith))

  module _ (le : E → E → Bool) (ord : Ordered le) (put : R → E → R) (lens : Lens get put) where
    -- e was written into the hole, after the hole of slot i had moved
    pub record Settled (n i : ℕ) (e : E) (before : List R) (deepest : ℕ) (after : List R) : Type 0 where
      pub low : i ≤ deepest
      pub used : deepest < n
      pub change : (d : E) → Replaced (entry_at get before d i) e (entries get n before) (entries get n after)
      pub heap : ((d : E) → Holed le (entry_at get before d) n i) → Heap le (entries get n after)
      pub frame : Frame get put deepest before after

    settled_by : (n i h k : ℕ) (e : E) (xs ys : List R) (r r' : R)
        → i ≤ k → k < n → n ≤ length ys → Frame get put k xs ys → OnPath h k → HoleMoved le get n xs i ys h
        → ((d : E) → Holed le (entry_at get xs d) n i → FitsAbove le (entry_at get ys d) h e × FitsBelow le (entry_at get ys d) n h e)
        → r' ≡ put (get_or ys h r) e → Settled n i e xs k (set ys h r')
    settled_by n i h k e xs ys r r' ik kn ln F p M fits w =
        let hk : h ≤ k = on_path_le p in
        let lh : h < length ys = omega arith in
        let got : get r' ≡ e = ap get w ∙ lens.put_get (get_or ys h r) e in
        record {
          low = ik;
          used = kn;
          change = λ d f. omega (arith, sum_written get f n ys h r' d (omega arith) ln, M.sums f d, ap f got);
          heap = λ H. heap_from le n (set ys h r') (λ d j z l.
              filled le (entry_at get ys d) (entry_at get (set ys h r') d) n h e (written_at get ys h r' e d lh got)
              (M.holed d (H d)) (fits d (H d)).0 (fits d (H d)).1 j z l);
          frame = frame_write get put lens k k h xs ys r r' e F (λ a q. q) p lh w;
        }

    -- the hole rose
    pub settled_up : (n i top : ℕ) (e : E) (xs ys : List R) (r r' : R)
        → i < n → n ≤ length xs → Risen le get put xs i e ys top → top < i → r' ≡ put (get_or ys top r) e → Settled n i e xs i (set ys top r')
    settled_up n i top e xs ys r r' l ln U lt w =
        settled_by n i top i e xs ys r r' (omega arith) l (omega (arith, U.rising.frame.same_length)) U.rising.frame U.rising.on_path (U.rising.moved n l ln)
        (λ d H. (U.above d, U.rising.below n d l ln H lt)) w

    -- the hole did not rise, and then sank
    pub settled_down : (n i top bottom : ℕ) (e : E) (xs ys zs : List R) (r r' : R)
        → i < n → n ≤ length xs → Risen le get put xs i e ys top → i ≤ top → Sunk le get put n ys i e zs bottom → r' ≡ put (get_or zs bottom r) e → Settled n i e xs bottom (set zs bottom r')
    settled_down n i top bottom e xs ys zs r r' l ln U not-up D w =
        let at_i : top ≡ i = omega (arith, on_path_le U.rising.on_path) in
        let same : ys ≡ xs = U.rising.still at_i in
        let D' : Sunk le get put n xs i e zs bottom = subst (λ (ws : List R). Sunk le get put n ws i e zs bottom) same D in
        let S = D'.sinking in
        let up : (d : E) → FitsAbove le (entry_at get xs d) i e
        = λ d. subst (λ (ws : List R). FitsAbove le (entry_at get ws d) i e) same (subst (λ (t : ℕ). FitsAbove le (entry_at get ys d) t e) at_i (U.above d)) in
        settled_by n i bottom bottom e xs zs r r' (on_path_le S.on_path) S.used (omega (arith, S.frame.same_length)) S.frame (here refl) S.moved
        (λ d H. (S.above d (up d), D'.below d)) w

    -- a queue of i has its hole at the end
    holed_end : (n i : ℕ) (xs : List R) → n ≡ i + 1 → i ≤ length xs → Heap le (entries get i xs) → (d : E) → Holed le (entry_at get xs d) n i
    holed_end n i xs e l H d = record {
      clear = λ j z lj ne np. heap_at le i xs l H d j z (omega arith);
      across = λ j z lj zi eq. absurd (omega arith);
    }

    pub inserted_by : (n i : ℕ) (e : E) (before : List R) (k : ℕ) (after : List R) → n ≤ length before → Settled n i e before k after → n ≡ i + 1
        → Inserted le e (entries get i before) (entries get n after)
    inserted_by n i e before k after ln S eq = record {
      change = λ f.
          let t : sum_by f (entries get n before) ≡ sum_by f (entries get (i + 1) before) = ap (λ (m : ℕ). sum_by f (entries get m before)) eq in
          omega (arith, S.change e f, sum_last f i before e (omega arith), t);
      heap = λ H. S.heap (holed_end n i before eq (omega arith) H);
    }

    pub replaced_by : (n i : ℕ) (e : E) (before : List R) (k : ℕ) (after : List R) → n ≤ length before → i < n → Settled n i e before k after
        → ReplacedAt le i e (entries get n before) (entries get n after)
    replaced_by n i e before k after ln l S = record {
      change = λ d f. rw (get_or-take n (map get before) i d l) (S.change d f);
      heap = λ H. S.heap (λ d. opened le (entry_at get before d) (entry_at get before d) n i ord (heap_at le n before ln H d) l);
    }

    -- the last entry e took the place of the one in slot i
    pub removed_by : (m n i : ℕ) (e : E) (before after : List R) → m ≡ n + 1 → m ≤ length before → i < n → ((d : E) → entry_at get before d n ≡ e)
        → ReplacedAt le i e (entries get n before) (entries get n after) → RemovedAt le i (entries get m before) (entries get n after)
    removed_by m n i e before after eq lm l ise S = record {
      change = λ d f.
          let t : sum_by f (entries get m before) ≡ sum_by f (entries get (n + 1) before) = ap (λ (j : ℕ). sum_by f (entries get j before)) eq in
          let old : get_or (entries get n before) i d ≡ get_or (entries get m before) i d
          = get_or-take n (map get before) i d l ∙ sym (get_or-take m (map get before) i d (omega arith)) in
          omega (arith, S.change d f, sum_last f n before d (omega arith), t, ap f (ise d), ap f old);
      heap = λ H. S.heap (heap_fewer le m n before (omega arith) lm H);
    }

    -- the entry in the last slot goes
    pub removed_last : (m n i : ℕ) (before : List R) → m ≡ n + 1 → m ≤ length before → i ≡ n → RemovedAt le i (entries get m before) (entries get n before)
    removed_last m n i before eq lm at_end = record {
      change = λ d f.
          let t : sum_by f (entries get m before) ≡ sum_by f (entries get (n + 1) before) = ap (λ (j : ℕ). sum_by f (entries get j before)) eq in
          let old : get_or (entries get m before) i d ≡ entry_at get before d n
          = get_or-take m (map get before) i d (omega arith) ∙ ap (entry_at get before d) at_end in
          omega (arith, sum_last f n before d (omega arith), t, ap f old);
      heap = λ H. heap_fewer le m n before (omega arith) lm H;
    }

    -- what stands past the deepest slot is as it was
    pub frame_from : (k n : ℕ) (before after : List R) → Frame get put k before after → k < n → SameFrom n before after
    frame_from k n before after F l d a la = F.off_path d a (λ p. absurd (omega (arith, on_path_le p)))
