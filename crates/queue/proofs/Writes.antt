-- One write to one slot: what is read after it, what it keeps, and what it does to sums.
use Rattle.std.proofs.Common.{◌≡◌, ℕ, ◌+◌, ◌<◌, ◌≤◌, List, map, length, get_or, take, set, sum_by, sym, refl, ap, ◌∙◌, subst, ⊎_elim, arith, length-set, length-take, get_or-set_other, get_or-take, get_or-set_same}
use lib.Seq.{take-set-lt, map-set}
use Rattle.std.proofs.lemmas.List.{get_or_default, length-map}
use Rattle.std.proofs.lemmas.List.Sums.{sum_by-set}
use Rattle.std.proofs.lemmas.Bool.{cases_eq}
use Rattle.queue.specs.Entries.{entries, entry_at}
use Rattle.queue.specs.Frame.{Frame}
use Rattle.queue.specs.Lens.{Lens}
use Rattle.queue.specs.Path.{OnPath}
use Rattle.queue.proofs.Holes.{Written}

module _ {R E : Type 0} (get : R → E) where
  pub written_at : (xs : List R) (h : ℕ) (r : R) (x d : E) → h < length xs → get r ≡ x → Written (entry_at get xs d) (entry_at get (set xs h r) d) h x
  written_at xs h r x d l e = record {
    there =
        let l' : h < length (map get xs) = rw length-map l in
        ap (λ (es : List E). get_or es h d) (map-set get xs h r) ∙ get_or-set_same (map get xs) h (get r) d l' ∙ e;
    others = λ i ne. ap (λ (es : List E). get_or es i d) (map-set get xs h r) ∙ get_or-set_other (map get xs) h i (get r) d ne;
  }

  pub sum_written : (f : E → ℕ) (n : ℕ) (xs : List R) (h : ℕ) (r : R) (d : E) → h < n → n ≤ length xs
      → sum_by f (entries get n (set xs h r)) + f (entry_at get xs d h) ≡ sum_by f (entries get n xs) + f (get r)
  sum_written f n xs h r d l ln =
      let long : h < length (take n (map get xs)) = omega (arith, length-take n (map get xs), length-map xs get) in
      let new : take n (map get (set xs h r)) ≡ set (take n (map get xs)) h (get r)
      = ap (take n) (map-set get xs h r) ∙ take-set-lt n (map get xs) h (get r) l in
      let old : get_or (take n (map get xs)) h d ≡ get_or (map get xs) h d = get_or-take n (map get xs) h d l in
      omega (arith, ap (sum_by f) new, ap f old, sum_by-set f (take n (map get xs)) h (get r) d long)

  module _ (put : R → E → R) (lens : Lens get put) where
    pub frame_none : (k : ℕ) (xs : List R) → Frame get put k xs xs
    frame_none k xs = record { same_length = refl; off_path = λ d a _. refl; only_entry = λ d a. sym (lens.get_put (get_or xs a d)) }

    -- one more write, at a slot on the path of k'
    pub frame_write : (k k' h : ℕ) (xs ys : List R) (r r' : R) (x : E) → Frame get put k xs ys → ((a : ℕ) → OnPath a k → OnPath a k') → OnPath h k' → h < length ys → r' ≡ put (get_or ys h r) x → Frame get put k' xs (set ys h r')
    frame_write k k' h xs ys r r' x F sub p l w = record {
      same_length = length-set ys h r' ∙ F.same_length;
      off_path = λ d a np.
          get_or-set_other ys h a r' d (λ eq. np (subst (λ (i : ℕ). OnPath i k') (sym eq) p)) ∙ F.off_path d a (λ q. np (sub a q));
      only_entry = λ d a. ⊎_elim
          (λ eq.
          let s : get_or (set ys h r') a d ≡ r' = ap (λ (i : ℕ). get_or (set ys h r') i d) eq ∙ get_or-set_same ys h r' d l in
          let q : get_or ys a d ≡ get_or ys h r = ap (λ (i : ℕ). get_or ys i d) eq ∙ get_or_default ys h d r l in
          let t : r' ≡ put (get_or xs a d) x
          = w ∙ ap (λ (z : R). put z x) (sym q ∙ F.only_entry d a) ∙ lens.put_put (get_or xs a d) (get (get_or ys a d)) x in
          let u : get r' ≡ x = ap get w ∙ lens.put_get (get_or ys h r) x in
          s ∙ t ∙ ap (put (get_or xs a d)) (sym u ∙ ap get (sym s)))
          (λ ne. let o = get_or-set_other ys h a r' d ne in rw o (F.only_entry d a))
          (cases_eq a h);
    }
