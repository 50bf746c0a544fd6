-- A hole moves one slot, up or down, and is filled.
use Rattle.std.proofs.Common.{◌≡◌, ℕ, ◌<◌, Bool, true, false, ◌≢◌, sym, ap, ◌∙◌, ⊎_elim, arith}
use Rattle.std.proofs.lemmas.Bool.{cases_eq}
use Rattle.queue.specs.Order.{Ordered}
use Rattle.queue.specs.Heap.{parent_slot}
use Rattle.queue.specs.Hole.{Holed, FitsAbove, FitsBelow}

-- the function after one entry was written into slot h
pub record Written {E : Type 0} (f f' : ℕ → E) (h : ℕ) (x : E) : Type 0 where
  pub there : f' h ≡ x
  pub others : (i : ℕ) → i ≢ h → f' i ≡ f i

module _ {E : Type 0} (le : E → E → Bool) where
  -- order carried over to equal entries
  pub same_order : {a b a' b' : E} → a' ≡ a → b' ≡ b → le a b ≡ true → le a' b' ≡ true
  same_order p q h = cc

  pub at_most_self : Ordered le → (x : E) → le x x ≡ true
  at_most_self ord x = ⊎_elim (λ t. t) (λ t. t) (ord.total x x)

  pub other_way : Ordered le → (x y : E) → le x y ≡ false → le y x ≡ true
  other_way ord x y no_way = ⊎_elim (λ h. cc) (λ h. h) (ord.total x y)

  module _ (f f' : ℕ → E) (n h : ℕ) where
    -- the parent's entry comes down into the hole
    pub holed_up : 0 < h → Written f f' h (f (parent_slot h)) → Ordered le → Holed le f n h → h < n → Holed le f' n (parent_slot h)
    holed_up z w ord H l = record {
      clear = λ i zi li ni np. ⊎_elim (λ e. absurd (np (ap parent_slot e)))
          (λ ne. ⊎_elim
          (λ e. same_order (ap f' e ∙ w.there) (w.others i ne) (H.across i zi li z e))
          (λ nq. same_order (w.others (parent_slot i) nq) (w.others i ne) (H.clear i zi li ne nq))
          (cases_eq (parent_slot i) h))
          (cases_eq i h);
      across = λ i zi li zp e.
          let top : le (f (parent_slot (parent_slot h))) (f (parent_slot h)) ≡ true = H.clear (parent_slot h) zp (omega arith) (omega arith) (omega arith) in
          ⊎_elim
          (λ eh. same_order (w.others _ (omega arith)) (ap f' eh ∙ w.there) top)
          (λ ne. same_order (w.others _ (omega arith)) (w.others i ne)
          (ord.trans _ _ _ top (same_order (ap f (sym e)) (λ _. f i) (H.clear i zi li ne (omega arith)))))
          (cases_eq i h);
    }

    -- what rises is at most the children of the slot that it rose to
    pub below_up : (e : E) → 0 < h → Written f f' h (f (parent_slot h)) → Ordered le → Holed le f n h → le e (f (parent_slot h)) ≡ true → FitsBelow le f' n (parent_slot h) e
    below_up x z w ord H small i zi li e = ⊎_elim
        (λ eh. same_order (λ _. x) (ap f' eh ∙ w.there) small)
        (λ ne. same_order (λ _. x) (w.others i ne) (ord.trans _ _ _ small (same_order (ap f (sym e)) (λ _. f i) (H.clear i zi li ne (omega arith)))))
        (cases_eq i h)

    -- the least child's entry comes up into the hole
    pub holed_down : (c : ℕ) → c < n → (0 < c) × (parent_slot c ≡ h) → FitsBelow le f n h (f c) → Written f f' h (f c) → Holed le f n h → Holed le f' n c
    holed_down c used child least w H = record {
      clear = λ i zi li ni np. ⊎_elim
          (λ eh. same_order (w.others (parent_slot i) (omega arith)) (ap f' eh ∙ w.there)
          (same_order (ap (λ (k : ℕ). f (parent_slot k)) eh) (λ _. f c) (H.across c child.0 used (omega arith) child.1)))
          (λ ne. ⊎_elim
          (λ e. same_order (ap f' e ∙ w.there) (w.others i ne) (least i zi li e))
          (λ nq. same_order (w.others (parent_slot i) nq) (w.others i ne) (H.clear i zi li ne nq))
          (cases_eq (parent_slot i) h))
          (cases_eq i h);
      across = λ i zi li zc e.
          same_order (ap f' child.1 ∙ w.there) (w.others i (omega arith))
          (same_order (ap f (sym e)) (λ _. f i) (H.clear i zi li (omega arith) (omega arith)));
    }

    -- what sinks is at least the entry that came up over it
    pub above_down : (e : E) (c : ℕ) → parent_slot c ≡ h → Written f f' h (f c) → le (f c) e ≡ true → FitsAbove le f' c e
    above_down x c e w small z = same_order (ap f' e ∙ w.there) (λ _. x) small

    -- where the entry fits above and below, it fills the hole
    pub filled : (e : E) → Written f f' h e → Holed le f n h → FitsAbove le f h e → FitsBelow le f n h e → (i : ℕ) → 0 < i → i < n → le (f' (parent_slot i)) (f' i) ≡ true
    filled x w H up down i zi li = ⊎_elim
        (λ eh. same_order (w.others (parent_slot i) (omega arith)) (ap f' eh ∙ w.there)
        (same_order (ap (λ (k : ℕ). f (parent_slot k)) eh) (λ _. x) (up (omega arith))))
        (λ ne. ⊎_elim
        (λ e. same_order (ap f' e ∙ w.there) (w.others i ne) (down i zi li e))
        (λ nq. same_order (w.others (parent_slot i) nq) (w.others i ne) (H.clear i zi li ne nq))
        (cases_eq (parent_slot i) h))
        (cases_eq i h)

    -- a heap has a hole wherever one entry is taken out
    pub opened : Ordered le → ((i : ℕ) → 0 < i → i < n → le (f (parent_slot i)) (f i) ≡ true) → h < n → Holed le f n h
    opened ord heap l = record {
      clear = λ i zi li ni np. heap i zi li;
      across = λ i zi li z e. ord.trans _ _ _ (heap h z l) (same_order (ap f (sym e)) (λ _. f i) (heap i zi li));
    }
