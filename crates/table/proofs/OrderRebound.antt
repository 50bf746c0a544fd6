-- The near queue, filled anew place by place.
use Rattle.std.proofs.Common.{◌≡◌, ℕ, ◌+◌, ◌<◌, ◌≤◌, true, false, ltb, ◌≢◌, List, length, get_or, Some, None, Option, sym, refl, ap, ◌∙◌, subst, ⊎_elim, arith}
use mathlib.Core.Path.{fun_ext}
use Rattle.std.proofs.lemmas.Bool.{cases_eq, cases_lt, cond-true, cond-false, lt-ltb, le-ltb}
use Rattle.queue.proofs.Parts.{part_kept_indexed}
use Rattle.queue.specs.Calls.{Inserted}
use Rattle.queue.specs.Entries.{entries}
use Rattle.queue.specs.Keys.{cost_at_most, near_at_most}
use Rattle.queue.specs.Notes.{IndexedFrame, NotesRight}
use Rattle.queue.specs.declared.entry.NearEntry.{NearEntry}
use Rattle.roster.proofs.Wishes.{expected_past}
use Rattle.roster.proofs.Expectations.{put_cases}
use Rattle.roster.proofs.Counting.{holds_room}
use Rattle.roster.proofs.Holding.{holds_same, holds_inserted}
use Rattle.roster.proofs.Keeping.{holds_kept}
use Rattle.roster.specs.Check.{expected_in}
use Rattle.roster.specs.Holds.{Holds, put}
use Rattle.search_model.specs.declared.records.Record.{Record}
use Rattle.search_model.specs.declared.search.Search.{Search}
use Rattle.search_model.specs.Choice.{is_near}
use Rattle.search_model.specs.Fields.{RecordLimits}
use Rattle.search_model.specs.Records.{at, blank, f, f_hat}
use Rattle.table.specs.declared.node.Node.{Node}
use Rattle.table.specs.Fresh.{blank_node}
use Rattle.table.specs.Order.{cost_place, near_place_of, InOrder}
use Rattle.table.specs.Rebound.{below, NearBelow, NearOnly}
use Rattle.table.specs.Seats.{low_entry, low_note, hope_entry, hope_note, near_entry, with_near_entry, near_note, with_near_note}
use Rattle.table.specs.Table.{records, low_wanted, hope_wanted, near_wanted, near_entry_of, least_hope}
use Rattle.table.proofs.OrderAsked.{kept_of, expected_at, expected_by, open_of}
use Rattle.roster.proofs.Orders.{near_ordered}
use Rattle.table.proofs.OrderOne.{near_of}

module _ {E : Type 0} (x : ℕ → Option E) (i : ℕ) where
  -- below no home nothing is expected, and past the last home all
  pub below_here : below i x i ≡ None
  below_here = cond-false (ltb i i) (x i) None (le-ltb i i (omega arith))

  below_in : (h : ℕ) → h < i → below i x h ≡ x h
  below_in h l = cond-true (ltb h i) (x h) None (lt-ltb h i l)

  below_out : (h : ℕ) → i ≤ h → below i x h ≡ None
  below_out h g = cond-false (ltb h i) (x h) None (le-ltb h i g)

  pub below_all : ((h : ℕ) → i ≤ h → x h ≡ None) → (h : ℕ) → below i x h ≡ x h
  below_all past h = ⊎_elim (below_in h) (λ g. below_out h g ∙ sym (past h g)) (cases_lt h i)

module _ {E : Type 0} (x : ℕ → Option E) (i : ℕ) where
  -- one more home
  pub below_put : (h : ℕ) → put (below i x) i (x i) h ≡ below (i + 1) x h
  below_put h = ⊎_elim
      (λ here. here.1 ∙ ap x (sym here.0) ∙ sym (below_in x (i + 1) h (omega (arith, here.0))))
      (λ other. other.1 ∙ ⊎_elim
      (λ l. below_in x i h l ∙ sym (below_in x (i + 1) h (omega arith)))
      (λ g. below_out x i h g ∙ sym (below_out x (i + 1) h (more other.0 g)))
      (cases_lt h i))
      (put_cases (below i x) i (x i) h)
    where
      more : h ≢ i → i ≤ h → i + 1 ≤ h
      more ne g = ⊎_elim (λ e. absurd (ne e)) (λ e. omega arith) (cases_eq h i)

  -- one that is not expected
  pub below_skip : x i ≡ None → (h : ℕ) → below i x h ≡ below (i + 1) x h
  below_skip none h = ⊎_elim
      (λ (e : h ≡ i). below_out x i h (omega arith) ∙ sym none ∙ ap x (sym e) ∙ sym (below_in x (i + 1) h (omega arith)))
      (λ ne. ⊎_elim
      (λ l. below_in x i h l ∙ sym (below_in x (i + 1) h (omega arith)))
      (λ g. below_out x i h g ∙ sym (below_out x (i + 1) h (omega arith)))
      (cases_lt h i))
      (cases_eq h i)

-- what is expected by the records is expected in every table with the same records
expected_same : {E : Type 0} (of : Record → ℕ → Option E) → ((h : ℕ) → of blank h ≡ None) → (t t' : List Node) → records t ≡ records t' → expected_in (λ (n : Node). of n.kept) t ≡ expected_in (λ (n : Node). of n.kept) t'
expected_same of none t t' same = fun_ext (λ h. expected_by of t h (none h) ∙ ap (λ rs. of (at rs h) h) same ∙ sym (expected_by of t' h (none h)))

near_same : (s : Search) (least : ℕ) (t t' : List Node) → records t ≡ records t' → expected_in (near_wanted s least) t ≡ expected_in (near_wanted s least) t'
near_same s least = expected_same (near_of s least) (λ h. refl)

module _ (s : Search) (least : ℕ) where
  -- a place that is not near
  pub near_skipped : (t : List Node) (i n : ℕ) → i < length t → is_near s least (get_or t i blank_node).kept ≡ false → NearBelow s least t i n t → NearBelow s least t (i + 1) n t
  near_skipped t i n l far H = holds_same near_at_most near_place_of near_entry near_note H
      (below_skip (expected_in (near_wanted s least) t) i (expected_at (near_wanted s least) t i l ∙ cond-false _ _ _ far))

  -- the queue has room for the next place
  pub near_room : (t : List Node) (i n : ℕ) → i < length t → NearBelow s least t i n t → n < length t
  near_room t i n l H = holds_room near_at_most near_place_of near_entry near_note H i l (below_here (expected_in (near_wanted s least) t) i)

  -- a place that is inserted
  pub near_added : (t t' : List Node) (i n k : ℕ) (e : NearEntry) → i < length t → is_near s least (get_or t i blank_node).kept ≡ true → NearBelow s least t i n t
      → e ≡ near_entry_of s (get_or t i blank_node) i
      → Inserted near_at_most e (entries near_entry n t) (entries near_entry (n + 1) t')
      → NotesRight near_place_of near_entry near_note (n + 1) t'
      → IndexedFrame near_place_of near_entry with_near_entry near_note with_near_note k t t'
      → NearBelow s least t (i + 1) (n + 1) t'
  near_added t t' i n k e l near H same I N F =
      let x = expected_in (near_wanted s least) t in
      let wanted = near_entry_of s (get_or t i blank_node) i in
      let is : expected_in (near_wanted s least) t i ≡ Some (near_entry_of s (get_or t i blank_node) i) = expected_at (near_wanted s least) t i l ∙ cond-true _ _ _ near in
      holds_same near_at_most near_place_of near_entry near_note
      (holds_inserted near_at_most near_place_of near_entry near_note near_ordered H wanted (near_room t i n l H) (below_here x i)
      (subst (λ (y : NearEntry). Inserted near_at_most y (entries near_entry n t) (entries near_entry (n + 1) t')) same I) N F)
      (λ h. ap (λ (o : Option NearEntry). put (below i x) i o h) (sym is) ∙ below_put x i h)

-- a call of the near queue changes nothing else
pub near_only : (t t' : List Node) (k : ℕ) → IndexedFrame near_place_of near_entry with_near_entry near_note with_near_note k t t' → NearOnly t t'
near_only t t' k F = record {
  kept = part_kept_indexed kept_of near_place_of near_entry with_near_entry near_note with_near_note k t t' F (λ r e. refl) (λ r m. refl);
  low_entries = part_kept_indexed low_entry near_place_of near_entry with_near_entry near_note with_near_note k t t' F (λ r e. refl) (λ r m. refl);
  low_notes = part_kept_indexed low_note near_place_of near_entry with_near_entry near_note with_near_note k t t' F (λ r e. refl) (λ r m. refl);
  hope_entries = part_kept_indexed hope_entry near_place_of near_entry with_near_entry near_note with_near_note k t t' F (λ r e. refl) (λ r m. refl);
  hope_notes = part_kept_indexed hope_note near_place_of near_entry with_near_entry near_note with_near_note k t t' F (λ r e. refl) (λ r m. refl);
}

pub only_then : (t t' t'' : List Node) → NearOnly t t' → NearOnly t' t'' → NearOnly t t''
only_then t t' t'' a b = record {
  kept = b.kept ∙ a.kept;
  low_entries = b.low_entries ∙ a.low_entries;
  low_notes = b.low_notes ∙ a.low_notes;
  hope_entries = b.hope_entries ∙ a.hope_entries;
  hope_notes = b.hope_notes ∙ a.hope_notes;
}

-- the expectations of the first table are those of the table so far
pub near_from : (s : Search) (least : ℕ) (t t' : List Node) (i n : ℕ) (u : List Node) → NearOnly t t' → NearBelow s least t i n u → NearBelow s least t' i n u
near_from s least t t' i n u o = subst (λ (x : ℕ → Option NearEntry). Holds near_at_most near_place_of near_entry near_note (below i x) n u) (near_same s least t t' (sym o.kept))

pub near_back : (s : Search) (least : ℕ) (t t' : List Node) (i n : ℕ) (u : List Node) → NearOnly t t' → NearBelow s least t' i n u → NearBelow s least t i n u
near_back s least t t' i n u o = subst (λ (x : ℕ → Option NearEntry). Holds near_at_most near_place_of near_entry near_note (below i x) n u) (near_same s least t' t o.kept)

pub limits_from : (t t' : List Node) → NearOnly t t' → ((p : ℕ) → RecordLimits (at (records t) p)) → (p : ℕ) → RecordLimits (at (records t') p)
limits_from t t' o l p = subst (λ rs. RecordLimits (at rs p)) (sym o.kept) (l p)

-- the table with its near queue filled
pub rebound_order : (s : Search) (least opened n : ℕ) (t t' : List Node) → least ≡ least_hope (records t) → ((p : ℕ) → RecordLimits (at (records t) p))
    → Holds cost_at_most cost_place low_entry low_note (expected_in low_wanted t) opened t
    → Holds cost_at_most cost_place hope_entry hope_note (expected_in hope_wanted t) opened t
    → NearOnly t t' → NearBelow s least t (length t) n t' → InOrder s opened n t'
rebound_order s least opened n t t' is limits low hope o near = record {
  limits = limits_from t t' o limits;
  low = subst (λ (x : ℕ → Option _). Holds cost_at_most cost_place low_entry low_note x opened t') (expected_same (open_of f) (λ h. refl) t t' (sym o.kept))
      (holds_kept cost_at_most cost_place low_entry low_note low o.low_entries o.low_notes);
  hope = subst (λ (x : ℕ → Option _). Holds cost_at_most cost_place hope_entry hope_note x opened t') (expected_same (open_of f_hat) (λ h. refl) t t' (sym o.kept))
      (holds_kept cost_at_most cost_place hope_entry hope_note hope o.hope_entries o.hope_notes);
  near = subst (λ (x : ℕ → Option NearEntry). Holds near_at_most near_place_of near_entry near_note x n t') same
      (holds_same near_at_most near_place_of near_entry near_note near (below_all (expected_in (near_wanted s least) t) (length t) (expected_past (near_wanted s least) t)));
}
  where
    same : expected_in (near_wanted s least) t ≡ expected_in (near_wanted s (least_hope (records t'))) t'
    same =
        near_same s least t t' (sym o.kept)
        ∙ ap (λ (l : ℕ). expected_in (near_wanted s l) t') (is ∙ ap least_hope (sym o.kept))
