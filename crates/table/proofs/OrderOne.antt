-- A queue that holds one entry, and the expectations of a table with one open place.
use Rattle.std.proofs.Common.{◌≡◌, ℕ, ◌*◌, ◌<◌, ◌≤◌, Bool, ◌≢◌, List, map, length, get_or, Some, None, Option, sym, refl, ap, ◌∙◌, subst, inr, ⊎_elim, mul-le-mul_right, arith, length-take}
use Rattle.std.proofs.lemmas.Bool.{and_from, cases_eq, cond-true, eq-eqb, le-leb}
use Rattle.queue.specs.Entries.{entry_at}
use Rattle.roster.proofs.Expectations.{none_some}
use Rattle.roster.specs.Check.{expected_in}
use Rattle.roster.specs.Holds.{Holds}
use Rattle.search_model.proofs.Heads.{hope_is}
use Rattle.search_model.specs.declared.records.Record.{Record}
use Rattle.search_model.specs.declared.search.Search.{Search}
use Rattle.search_model.specs.Choice.{is_near, rank}
use Rattle.search_model.specs.Fields.{RecordLimits}
use Rattle.search_model.specs.Records.{at, blank, f_hat}
use Rattle.queue.specs.declared.entry.NearEntry.{NearEntry}
use Rattle.table.specs.declared.node.Node.{Node}
use Rattle.table.specs.Asked.{when}
use Rattle.table.specs.Table.{records, open_entry, near_wanted, least_hope}
use Rattle.table.proofs.OrderAsked.{expected_by, expected_open, open_of}
use Rattle.table.proofs.OrderHead.{hope_or_0}
use Rattle.table.proofs.OrderLimits.{blank_limits}

module _ {R E : Type 0} (le : E → E → Bool) (home : E → ℕ) (get : R → E) (note : R → ℕ) {x : ℕ → Option E} {xs : List R} (e : E) where
  -- the only expected entry stands in slot 0, and its home notes that
  pub holds_one : ((d : E) → entry_at get xs d 0 ≡ e) → home e < length xs → ((r : R) → note (get_or xs (home e) r) ≡ 0)
      → x (home e) ≡ Some e → ((h : ℕ) → h ≢ home e → x h ≡ None) → Holds le home get note x 1 xs
  holds_one stands within noted here other = record {
    rule = record { filled = omega arith; heap = λ d i z l. absurd (omega (arith, length-take 1 (map get xs))) };
    notes = λ d r i l.
        let z : 0 ≡ i = omega arith in
        subst (λ (j : ℕ). (home (entry_at get xs d j) < length xs) × (note (get_or xs (home (entry_at get xs d j)) r) ≡ j)) z
        (subst (λ (y : E). (home y < length xs) × (note (get_or xs (home y) r) ≡ 0)) (sym (stands d)) (within, noted r));
    right = λ d i l.
        let z : 0 ≡ i = omega arith in
        subst (λ (j : ℕ). x (home (entry_at get xs d j)) ≡ Some (entry_at get xs d j)) z
        (subst (λ (y : E). x (home y) ≡ Some y) (sym (stands d)) here);
    all = λ h y is. ⊎_elim
        (λ (same : h ≡ home e).
        let note_is : (r : R) → note (get_or xs h r) ≡ 0 = λ r. ap (λ (a : ℕ). note (get_or xs a r)) same ∙ noted r in
        record {
          within = omega arith;
          used = λ r. omega (arith, note_is r);
          names = λ d r. ap (λ (i : ℕ). home (entry_at get xs d i)) (note_is r) ∙ ap home (stands d) ∙ sym same;
        })
        (λ ne. absurd (none_some (x h) y (other h ne) is))
        (cases_eq h (home e));
  }

-- an entry of the near queue, by its record
abbrev pub near_of : Search → ℕ → Record → ℕ → Option NearEntry
near_of s least r h = when (is_near s least r) (record { steps = rank s r; cost = f_hat r; place = h })

module _ (t : List Node) (start : ℕ) (r : Record) (here : at (records t) start ≡ r) (opened : r.mark ≡ 1) (other : (h : ℕ) → h ≢ start → at (records t) h ≡ blank) where
  pub one_limits : RecordLimits r → (p : ℕ) → RecordLimits (at (records t) p)
  one_limits l p = ⊎_elim
      (λ (e : p ≡ start). subst RecordLimits (sym (ap (at (records t)) e ∙ here)) l)
      (λ ne. subst RecordLimits (sym (other p ne)) blank_limits)
      (cases_eq p start)

  module _ (key : Record → ℕ) where
    pub open_here : expected_in (open_entry key) t start ≡ Some (record { cost = key r; place = start })
    open_here = expected_open key t start ∙ ap (λ (q : Record). open_of key q start) here ∙ cond-true _ _ _ (eq-eqb r.mark 1 opened)

    pub open_other : (h : ℕ) → h ≢ start → expected_in (open_entry key) t h ≡ None
    open_other h ne = expected_open key t h ∙ ap (λ (q : Record). open_of key q h) (other h ne)

  one_least : least_hope (records t) ≡ f_hat r
  one_least = ap (hope_or_0 t) (hope_is (records t) start (ap (λ (q : Record). q.mark) here ∙ opened) (λ q o. ⊎_elim
      (λ (e : q ≡ start). inr (ap (λ (p : ℕ). f_hat (at (records t) p)) (sym e), omega arith))
      (λ ne. absurd (omega (arith, ap (λ (p : Record). p.mark) (other q ne))))
      (cases_eq q start)))
      ∙ ap f_hat here

  module _ (s : Search) where
    pub near_here : s.bound.b ≤ s.bound.a → expected_in (near_wanted s (least_hope (records t))) t start ≡ Some (record { steps = r.steps; cost = f_hat r; place = start })
    near_here ba =
        expected_by (near_of s (least_hope (records t))) t start refl
        ∙ ap (λ (q : Record). near_of s (least_hope (records t)) q start) here
        ∙ cond-true _ _ _ (and_from _ _ (eq-eqb r.mark 1 opened)
        (le-leb _ _ (subst (λ (l : ℕ). s.bound.b * f_hat r ≤ s.bound.a * l) (sym one_least) (mul-le-mul_right (f_hat r) ba))))

    pub near_other : (h : ℕ) → h ≢ start → expected_in (near_wanted s (least_hope (records t))) t h ≡ None
    near_other h ne = expected_by (near_of s (least_hope (records t))) t h refl ∙ ap (λ (q : Record). near_of s (least_hope (records t)) q h) (other h ne)
