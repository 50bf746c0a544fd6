-- The steps of the two sifting loops.
use Rattle.std.proofs.Common.{◌≡◌, ℕ, ◌<◌, ◌≤◌, Bool, false, ◌≢◌, List, length, get_or, set, sym, refl, ap, ◌∙◌, subst, arith}
use Rattle.queue.specs.Entries.{entry_at}
use Rattle.queue.specs.Heap.{parent_slot}
use Rattle.queue.specs.Hole.{Holed, LeastChild}
use Rattle.queue.specs.Lens.{Lens}
use Rattle.queue.specs.Order.{Ordered}
use Rattle.queue.specs.Path.{OnPath}
use Rattle.queue.specs.Path.OnPath.{here, above}
use Rattle.queue.specs.Sift.{HoleMoved, Rising, Sinking}
use Rattle.queue.proofs.Holes.{Written, other_way, holed_up, below_up, holed_down, above_down}
use Rattle.queue.proofs.Paths.{on_path_le, on_path_trans, on_path_up}
use Rattle.queue.proofs.Writes.{written_at, sum_written, frame_none, frame_write}

module _ {R E : Type 0} (le : E → E → Bool) (ord : Ordered le) (get : R → E) (put : R → E → R) (lens : Lens get put) where
  moved_none : (n : ℕ) (xs : List R) (h : ℕ) → HoleMoved le get n xs h xs h
  moved_none n xs h = record { sums = λ f d. refl; holed = λ d H. H }

  -- the entry of slot h' is copied into the hole h, and h' is the hole now
  moved_more : (n : ℕ) (xs ys : List R) (k h h' : ℕ) (r' : R) (x : E)
      → HoleMoved le get n xs k ys h → h < n → h' ≢ h → h' < length ys → n ≤ length ys
      → get r' ≡ x → ((d : E) → entry_at get ys d h' ≡ x)
      → ((d : E) → Written (entry_at get ys d) (entry_at get (set ys h r') d) h (entry_at get ys d h') → Holed le (entry_at get ys d) n h → Holed le (entry_at get (set ys h r') d) n h')
      → HoleMoved le get n xs k (set ys h r') h'
  moved_more n xs ys k h h' r' x M l ne l' ln got e step =
      let wrote : (d : E) → Written (entry_at get ys d) (entry_at get (set ys h r') d) h (entry_at get ys d h')
      = λ d. written_at get ys h r' (entry_at get ys d h') d (omega arith) (got ∙ sym (e d)) in
      record {
        sums = λ f d.
            let same : entry_at get (set ys h r') d h' ≡ get r' = (wrote d).others h' ne ∙ e d ∙ sym got in
            omega (arith, sum_written get f n ys h r' d l ln, M.sums f d, ap f same);
        holed = λ d H. step d (wrote d) (M.holed d H);
      }

  pub rising_none : (xs : List R) (h : ℕ) (e : E) → Rising le get put xs h e xs h
  rising_none xs h e = record {
    on_path = here refl;
    frame = frame_none get put lens h xs;
    moved = λ n l ln. moved_none n xs h;
    below = λ n d l ln H lt. absurd (omega arith);
    still = λ _. refl;
  }

  -- the parent's entry x comes down, since it is not at most e
  rising_step : (xs ys : List R) (k h : ℕ) (e x : E) (r r' : R)
      → Rising le get put xs k e ys h → 0 < h → k < length ys
      → ((d : E) → entry_at get ys d (parent_slot h) ≡ x) → r' ≡ put (get_or ys h r) x → ((d : E) → le (entry_at get ys d (parent_slot h)) e ≡ false)
      → Rising le get put xs k e (set ys h r') (parent_slot h)
  rising_step xs ys k h e x r r' I z lk par w turned =
      let hk : h ≤ k = on_path_le I.on_path in
      let lp : parent_slot h < length ys = omega arith in
      let lh : h < length ys = omega arith in
      let long : length ys ≡ length xs = I.frame.same_length in
      let got : get r' ≡ x = ap get w ∙ lens.put_get (get_or ys h r) x in
      record {
        on_path = on_path_up z I.on_path;
        frame = frame_write get put lens k k h xs ys r r' x I.frame (λ a p. p) I.on_path lh w;
        moved = λ n l ln.
            moved_more n xs ys k h (parent_slot h) r' x (I.moved n l ln) (omega arith) (omega arith) lp (omega arith) got par
            (λ d wr H. holed_up le (entry_at get ys d) (entry_at get (set ys h r') d) n h z wr ord H (omega arith));
        below = λ n d l ln H lt.
            below_up le (entry_at get ys d) (entry_at get (set ys h r') d) n h e z
            (written_at get ys h r' (entry_at get ys d (parent_slot h)) d lh (got ∙ sym (par d)))
            ord ((I.moved n l ln).holed d H) (other_way le ord (entry_at get ys d (parent_slot h)) e (turned d));
        still = λ eq. absurd (omega arith);
      }

  pub rising_more : (xs ys : List R) (k h p : ℕ) (e x : E) (r r' : R)
      → Rising le get put xs k e ys h → 0 < h → k < length ys → p ≡ parent_slot h
      → ((d : E) → entry_at get ys d p ≡ x) → r' ≡ put (get_or ys h r) x → ((d : E) → le (entry_at get ys d p) e ≡ false)
      → Rising le get put xs k e (set ys h r') p
  rising_more xs ys k h p e x r r' I z lk up par w turned =
      subst (λ (q : ℕ). Rising le get put xs k e (set ys h r') q) (sym up)
      (rising_step xs ys k h e x r r' I z lk
      (subst (λ (q : ℕ). (d : E) → entry_at get ys d q ≡ x) up par) w (subst (λ (q : ℕ). (d : E) → le (entry_at get ys d q) e ≡ false) up turned))

  pub sinking_none : (n : ℕ) (xs : List R) (h : ℕ) (e : E) → h < n → Sinking le get put n xs h e xs h
  sinking_none n xs h e l = record {
    used = l;
    on_path = here refl;
    frame = frame_none get put lens h xs;
    moved = moved_none n xs h;
    above = λ d up. up;
  }

  -- the least child's entry x comes up, since e is not at most it
  pub sinking_more : (n : ℕ) (xs ys : List R) (k h c : ℕ) (e x : E) (r r' : R)
      → Sinking le get put n xs k e ys h → n ≤ length ys → LeastChild le (entry_at get ys) n h c
      → ((d : E) → entry_at get ys d c ≡ x) → r' ≡ put (get_or ys h r) x → ((d : E) → le e (entry_at get ys d c) ≡ false)
      → Sinking le get put n xs k e (set ys h r') c
  sinking_more n xs ys k h c e x r r' I ln m par w turned =
      let lc : c < length ys = omega arith in
      let lh : h < length ys = omega arith in
      let got : get r' ≡ x = ap get w ∙ lens.put_get (get_or ys h r) x in
      let step : OnPath h c = above m.child.0 (here (sym m.child.1)) in
      record {
        used = m.used;
        on_path = on_path_trans I.on_path step;
        frame = frame_write get put lens h c h xs ys r r' x I.frame (λ a p. on_path_trans p step) step lh w;
        moved =
            moved_more n xs ys k h c r' x I.moved I.used (omega arith) lc ln got par
            (λ d wr H. holed_down le (entry_at get ys d) (entry_at get (set ys h r') d) n h c m.used m.child (m.least d) wr H);
        above = λ d up.
            above_down le (entry_at get ys d) (entry_at get (set ys h r') d) n h e c m.child.1
            (written_at get ys h r' (entry_at get ys d c) d lh (got ∙ sym (par d))) (other_way le ord e (entry_at get ys d c) (turned d));
      }
