-- The table of a search that begins is in order.
use Rattle.std.proofs.Common.{◌≡◌, ℕ, zero, suc, ◌<◌, ◌≤◌, ◌≢◌, List, ◌∷◌, map, length, get_or, set, replicate, sym, refl, ap, ◌∙◌, ⊎_elim, arith, length-set, get_or-set_other, get_or-set_same}
use lib.ListN.{length-replicate, get_or-replicate}
use Rattle.std.proofs.lemmas.List.{get_or-map, get_or_past, map-set}
use Rattle.std.proofs.lemmas.Bool.{cases_lt}
use Rattle.queue.specs.Keys.{cost_at_most, near_at_most}
use Rattle.queue.specs.Entries.{entry_at}
use Rattle.queue.proofs.Parts.{part_set}
use Rattle.search_model.specs.declared.records.Record.{Record}
use Rattle.search_model.specs.declared.search.Search.{Search}
use Rattle.search_model.specs.Fields.{RecordLimits}
use Rattle.search_model.specs.Records.{at, blank, f, f_hat}
use Rattle.table.specs.declared.node.Node.{Node}
use Rattle.table.specs.Fresh.{blank_node, seated, with_kept, seated_table, set_kept, fresh_table}
use Rattle.table.specs.Order.{cost_place, near_place_of, InOrder}
use Rattle.table.specs.Seats.{low_entry, low_note, hope_entry, hope_note, near_entry, near_note}
use Rattle.table.specs.Table.{records}
use Rattle.table.proofs.OrderAsked.{kept_of}
use Rattle.table.proofs.OrderOne.{holds_one, one_limits, open_here, open_other, near_here, near_other}

map_replicate : {A B : Type 0} (g : A → B) (n : ℕ) (x : A) → map g (replicate n x) ≡ replicate n (g x)
map_replicate g zero x = refl
map_replicate g (suc n) x = ap (λ ys. g x ∷ ys) (map_replicate g n x)

module _ (n start : ℕ) (r : Record) (within : start < n) where
  long : length (fresh_table n start r) ≡ n
  long = length-set (seated_table n start r) start _ ∙ length-set (replicate n blank_node) 0 _ ∙ length-replicate n blank_node

  first : get_or (replicate n blank_node) 0 blank_node ≡ blank_node
  first = get_or-replicate n 0 blank_node blank_node (omega arith)

  -- the table as the calls leave it
  pub fresh_is : (t : List Node) (k : Node) → t ≡ replicate n blank_node → k ≡ seated (get_or t 0 blank_node) start r → set_kept (set t 0 k) start r ≡ fresh_table n start r
  fresh_is t k cleared seats =
      ap (λ xs. set_kept xs start r)
      (ap (λ xs. set xs 0 k) cleared
      ∙ ap (set (replicate n blank_node) 0) (seats ∙ ap (λ (b : Node). seated b start r) (ap (λ xs. get_or xs 0 blank_node) cleared ∙ first)))

  pub fresh_records : records (fresh_table n start r) ≡ set (replicate n blank) start r
  fresh_records =
      map-set kept_of (seated_table n start r) start _
      ∙ ap (λ rs. set rs start r) (part_set kept_of (replicate n blank_node) 0 blank_node (seated blank_node start r) (sym (ap kept_of first)) ∙ map_replicate kept_of n blank_node)

  -- the start is open alone
  fresh_here : at (records (fresh_table n start r)) start ≡ r
  fresh_here = ap (λ rs. at rs start) fresh_records ∙ get_or-set_same (replicate n blank) start r blank (omega (arith, length-replicate n blank))

  fresh_other : (h : ℕ) → h ≢ start → at (records (fresh_table n start r)) h ≡ blank
  fresh_other h ne = ap (λ rs. at rs h) fresh_records ∙ get_or-set_other (replicate n blank) start h r blank ne ∙ ⊎_elim
      (λ l. get_or-replicate n h blank blank l)
      (λ past. get_or_past (replicate n blank) h blank (omega (arith, length-replicate n blank)))
      (cases_lt h n)

  -- what the start's record leaves alone: an entry and a note
  module _ {E : Type 0} (get : Node → E) (keeps : (k : Node) → get (with_kept k r) ≡ get k) where
    part_is : map get (fresh_table n start r) ≡ map get (seated_table n start r)
    part_is = part_set get (seated_table n start r) start blank_node _ (keeps (get_or (seated_table n start r) start blank_node))

    stands : (d : E) → entry_at get (fresh_table n start r) d 0 ≡ get (seated blank_node start r)
    stands d =
        let l : 0 < length (replicate n blank_node) = omega (arith, length-replicate n blank_node) in
        ap (λ es. get_or es 0 d) (part_is ∙ map-set get (replicate n blank_node) 0 (seated blank_node start r))
        ∙ get_or-set_same (map get (replicate n blank_node)) 0 _ d (omega (arith, ap length (map_replicate get n blank_node), length-replicate n (get blank_node)))

  module _ (note : Node → ℕ) (keeps : (k : Node) → note (with_kept k r) ≡ note k) (same : note (seated blank_node start r) ≡ note blank_node) where
    noted : (d : Node) → note (get_or (fresh_table n start r) start d) ≡ note blank_node
    noted d =
        sym (get_or-map note (fresh_table n start r) start d 0 (omega (arith, long)))
        ∙ ap (λ ns. get_or ns start 0) (part_is note keeps ∙ part_set note (replicate n blank_node) 0 blank_node (seated blank_node start r) (same ∙ sym (ap note first)) ∙ map_replicate note n blank_node)
        ∙ get_or-replicate n start (note blank_node) 0 within

  module _ (opened : r.mark ≡ 1) (limits : RecordLimits r) where
    pub fresh_order : (s : Search) → s.bound.b ≤ s.bound.a → InOrder s 1 1 (fresh_table n start r)
    fresh_order s ba =
        let t = fresh_table n start r in
        let l : start < length (fresh_table n start r) = omega (arith, long) in
        record {
          limits = one_limits t start r fresh_here opened fresh_other limits;
          low = holds_one cost_at_most cost_place low_entry low_note _ (stands low_entry (λ k. refl)) l (noted low_note (λ k. refl) refl)
              (open_here t start r fresh_here opened fresh_other f) (open_other t start r fresh_here opened fresh_other f);
          hope = holds_one cost_at_most cost_place hope_entry hope_note _ (stands hope_entry (λ k. refl)) l (noted hope_note (λ k. refl) refl)
              (open_here t start r fresh_here opened fresh_other f_hat) (open_other t start r fresh_here opened fresh_other f_hat);
          near = holds_one near_at_most near_place_of near_entry near_note _ (stands near_entry (λ k. refl)) l (noted near_note (λ k. refl) refl)
              (near_here t start r fresh_here opened fresh_other s ba) (near_other t start r fresh_here opened fresh_other s);
        }
