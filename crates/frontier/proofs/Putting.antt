-- The four updates after a place is given another record and side.
use Rattle.std.proofs.Common.{◌≡◌, ℕ, Bool, List, map, length, Option, sym, refl, ap, ◌∙◌, subst, arith, length-set}
use Rattle.std.proofs.lemmas.List.{get_or_default}
use Rattle.queue.specs.Keys.{cost_at_most, near_at_most}
use Rattle.queue.specs.declared.entry.CostEntry.{CostEntry}
use Rattle.queue.specs.declared.entry.NearEntry.{NearEntry}
use Rattle.roster.specs.Update.{Updatable, QueueOnly, updated_count}
use Rattle.roster.proofs.Updating.{Updated, part_kept_only}
use Rattle.search_model.specs.declared.records.Record.{Record}
use Rattle.search_model.specs.declared.search.Search.{Search}
use Rattle.search_model.specs.Records.{is_open, f, f_hat}
use Rattle.frontier.specs.declared.frontier.Frontier.{Frontier}
use Rattle.table.specs.declared.node.Node.{Node}
use Rattle.frontier.specs.Frontier.{Puttable, PutDone, counted_by, near_side_wanted, far_side_wanted, near_side, far_side}
use Rattle.table.specs.Fresh.{blank_node}
use Rattle.table.specs.Order.{cost_place, near_place_of}
use Rattle.table.specs.Seats.{low_entry, with_low_entry, low_note, with_low_note, hope_entry, with_hope_entry, hope_note, with_hope_note, near_entry, with_near_entry, near_note, with_near_note, far_entry, with_far_entry, far_note, with_far_note}
use Rattle.table.specs.Table.{low_wanted, hope_wanted, near_entry_of}
use Rattle.frontier.proofs.Nodes.{node_at, renewed, written, face}
use Rattle.frontier.proofs.Requeue.{Kind, Held, Requeued, expects, held_written, can_update, requeued, at_last, beside, put_records, put_length, put_limits, put_covered, put_side, put_elsewhere}

-- The four queues.
abbrev pub open_node : Node → Bool
open_node n = is_open n.kept

abbrev pub hope_made : Node → ℕ → CostEntry
hope_made n p = record { cost = f_hat n.kept; place = p }

abbrev pub low_kind : Kind CostEntry
low_kind = record {
  at_most = cost_at_most;
  home = cost_place;
  entry = low_entry;
  note = low_note;
  test = open_node;
  made = λ n p. record { cost = f n.kept; place = p };
  names = λ n p. refl;
  reads = λ n p. refl;
  keeps_entry = λ n r side. refl;
  keeps_note = λ n r side. refl;
}

abbrev pub hope_kind : Kind CostEntry
hope_kind = record {
  at_most = cost_at_most;
  home = cost_place;
  entry = hope_entry;
  note = hope_note;
  test = open_node;
  made = hope_made;
  names = λ n p. refl;
  reads = λ n p. refl;
  keeps_entry = λ n r side. refl;
  keeps_note = λ n r side. refl;
}

abbrev pub near_kind : Search → Kind NearEntry
near_kind s = record {
  at_most = near_at_most;
  home = near_place_of;
  entry = near_entry;
  note = near_note;
  test = near_side;
  made = near_entry_of s;
  names = λ n p. refl;
  reads = λ n p. refl;
  keeps_entry = λ n r side. refl;
  keeps_note = λ n r side. refl;
}

abbrev pub far_kind : Kind CostEntry
far_kind = record {
  at_most = cost_at_most;
  home = cost_place;
  entry = far_entry;
  note = far_note;
  test = far_side;
  made = hope_made;
  names = λ n p. refl;
  reads = λ n p. refl;
  keeps_entry = λ n r side. refl;
  keeps_note = λ n r side. refl;
}

-- The frames of the four updates.
abbrev pub LowOnly : List Node → List Node → Type 0
LowOnly = QueueOnly low_entry with_low_entry low_note with_low_note

abbrev pub HopeOnly : List Node → List Node → Type 0
HopeOnly = QueueOnly hope_entry with_hope_entry hope_note with_hope_note

abbrev pub NearOnly : List Node → List Node → Type 0
NearOnly = QueueOnly near_entry with_near_entry near_note with_near_note

abbrev pub FarOnly : List Node → List Node → Type 0
FarOnly = QueueOnly far_entry with_far_entry far_note with_far_note

module _ {s : Search} {fr : Frontier} {t : List Node} {place : ℕ} {kept : Record} {side : ℕ} (P : Puttable s fr t place kept side) where
  -- what each queue holds when its turn comes
  long₁ : length (written t place kept side) ≡ length t
  long₁ = length-set t place (renewed t place kept side)

  low₁ : Held low_kind (expects low_kind t) fr.opened (written t place kept side)
  low₁ = held_written low_kind t place kept side P.prepared.ready.low

  pub can_low : (was : Bool) (want : Option CostEntry) → was ≡ is_open (node_at t place).kept → want ≡ low_wanted (renewed t place kept side) place
      → Updatable cost_at_most cost_place low_entry low_note 4294967296 fr.opened place was want (written t place kept side)
  can_low was want w same = can_update low_kind t place kept side P.on fr.opened was want (written t place kept side) low₁ w same long₁ P.prepared.small

  pub low_put : (was : Bool) (want : Option CostEntry) (m : ℕ) (t₂ : List Node) → was ≡ is_open (node_at t place).kept → want ≡ low_wanted (renewed t place kept side) place
      → Updated cost_at_most cost_place low_entry low_note fr.opened place was want (written t place kept side) m t₂ → m ≡ updated_count fr.opened was want
      → Requeued low_kind t place kept side fr.opened m t₂
  low_put was want m t₂ w same = requeued low_kind t place kept side P.on fr.opened was want (written t place kept side) low₁ w same m t₂

  module _ {t₂ : List Node} (A : LowOnly (written t place kept side) t₂) where
    hope₂ : Held hope_kind (expects hope_kind t) fr.opened t₂
    hope₂ = beside hope_kind A (λ r e m. refl) (λ r e m. refl) _ _ (held_written hope_kind t place kept side P.prepared.ready.hope)

    pub can_hope : (was : Bool) (want : Option CostEntry) → was ≡ is_open (node_at t place).kept → want ≡ hope_wanted (renewed t place kept side) place
        → Updatable cost_at_most cost_place hope_entry hope_note 4294967296 fr.opened place was want t₂
    can_hope was want w same = can_update hope_kind t place kept side P.on fr.opened was want t₂ hope₂ w same (A.same_length ∙ long₁) P.prepared.small

    pub hope_put : (was : Bool) (want : Option CostEntry) (m : ℕ) (t₃ : List Node) → was ≡ is_open (node_at t place).kept → want ≡ hope_wanted (renewed t place kept side) place
        → Updated cost_at_most cost_place hope_entry hope_note fr.opened place was want t₂ m t₃ → m ≡ updated_count fr.opened was want
        → Requeued hope_kind t place kept side fr.opened m t₃
    hope_put was want m t₃ w same = requeued hope_kind t place kept side P.on fr.opened was want t₂ hope₂ w same m t₃

    module _ {t₃ : List Node} (B : HopeOnly t₂ t₃) where
      near₃ : Held (near_kind s) (expects (near_kind s) t) fr.nears t₃
      near₃ = beside (near_kind s) B (λ r e m. refl) (λ r e m. refl) _ _
          (beside (near_kind s) A (λ r e m. refl) (λ r e m. refl) _ _ (held_written (near_kind s) t place kept side P.prepared.ready.near))

      pub can_near : (was : Bool) (want : Option NearEntry) → was ≡ near_side (node_at t place) → want ≡ near_side_wanted s (renewed t place kept side) place
          → Updatable near_at_most near_place_of near_entry near_note 4294967296 fr.nears place was want t₃
      can_near was want w same = can_update (near_kind s) t place kept side P.on fr.nears was want t₃ near₃ w same (B.same_length ∙ A.same_length ∙ long₁) P.prepared.small

      pub near_put : (was : Bool) (want : Option NearEntry) (m : ℕ) (t₄ : List Node) → was ≡ near_side (node_at t place) → want ≡ near_side_wanted s (renewed t place kept side) place
          → Updated near_at_most near_place_of near_entry near_note fr.nears place was want t₃ m t₄ → m ≡ updated_count fr.nears was want
          → Requeued (near_kind s) t place kept side fr.nears m t₄
      near_put was want m t₄ w same = requeued (near_kind s) t place kept side P.on fr.nears was want t₃ near₃ w same m t₄

      module _ {t₄ : List Node} (C : NearOnly t₃ t₄) where
        far₄ : Held far_kind (expects far_kind t) fr.fars t₄
        far₄ = beside far_kind C (λ r e m. refl) (λ r e m. refl) _ _
            (beside far_kind B (λ r e m. refl) (λ r e m. refl) _ _
            (beside far_kind A (λ r e m. refl) (λ r e m. refl) _ _ (held_written far_kind t place kept side P.prepared.ready.far)))

        pub can_far : (was : Bool) (want : Option CostEntry) → was ≡ far_side (node_at t place) → want ≡ far_side_wanted (renewed t place kept side) place
            → Updatable cost_at_most cost_place far_entry far_note 4294967296 fr.fars place was want t₄
        can_far was want w same = can_update far_kind t place kept side P.on fr.fars was want t₄ far₄ w same (C.same_length ∙ B.same_length ∙ A.same_length ∙ long₁) P.prepared.small

        pub far_put : (was : Bool) (want : Option CostEntry) (m : ℕ) (t₅ : List Node) → was ≡ far_side (node_at t place) → want ≡ far_side_wanted (renewed t place kept side) place
            → Updated cost_at_most cost_place far_entry far_note fr.fars place was want t₄ m t₅ → m ≡ updated_count fr.fars was want
            → Requeued far_kind t place kept side fr.fars m t₅
        far_put was want m t₅ w same = requeued far_kind t place kept side P.on fr.fars was want t₄ far₄ w same m t₅

        module _ {t₅ : List Node} (D : FarOnly t₄ t₅) where
          faces : map face t₅ ≡ map face (written t place kept side)
          faces =
              part_kept_only D face (λ r e m. refl) ∙ part_kept_only C face (λ r e m. refl) ∙ part_kept_only B face (λ r e m. refl)
              ∙ part_kept_only A face (λ r e m. refl)

          -- the table is ready again
          pub put_done : (opened hopes nears fars : ℕ)
              → Requeued low_kind t place kept side fr.opened opened t₂
              → Requeued hope_kind t place kept side fr.opened hopes t₃
              → Requeued (near_kind s) t place kept side fr.nears nears t₄
              → Requeued far_kind t place kept side fr.fars fars t₅
              → PutDone s fr t place kept side (record { opened = opened; nears = nears; fars = fars; cover = fr.cover }) t₅
          put_done opened hopes nears fars low hope near far = record {
            put = record {
              prepared = record {
                ready = record {
                  limits = put_limits P (node_at t place) t₅ faces;
                  low = at_last low_kind t place kept side opened t₅ P.on faces
                      (beside low_kind D (λ r e m. refl) (λ r e m. refl) _ _ (beside low_kind C (λ r e m. refl) (λ r e m. refl) _ _ (beside low_kind B (λ r e m. refl) (λ r e m. refl) _ _ low.held)));
                  hope = subst (λ (m : ℕ). Held hope_kind (expects hope_kind t₅) m t₅) (hope.count ∙ sym low.count)
                      (at_last hope_kind t place kept side hopes t₅ P.on faces
                      (beside hope_kind D (λ r e m. refl) (λ r e m. refl) _ _ (beside hope_kind C (λ r e m. refl) (λ r e m. refl) _ _ hope.held)));
                  near = at_last (near_kind s) t place kept side nears t₅ P.on faces (beside (near_kind s) D (λ r e m. refl) (λ r e m. refl) _ _ near.held);
                  far = at_last far_kind t place kept side fars t₅ P.on faces far.held;
                  covered = put_covered P (node_at t place) t₅ faces;
                };
                small = omega (arith, P.prepared.small, put_length P (node_at t place) t₅ faces);
              };
              records_set = put_records P (node_at t place) t₅ faces;
              same_cover = refl;
              same_length = put_length P (node_at t place) t₅ faces;
            };
            there = put_side P (node_at t place) t₅ faces;
            others = put_elsewhere P (node_at t place) t₅ faces;
            nears = λ d. near.count ∙ ap (λ (n : Node). counted_by fr.nears (near_side (renewed t place kept side)) (near_side n)) (get_or_default t place blank_node d P.on);
            fars = λ d. far.count ∙ ap (λ (n : Node). counted_by fr.fars (far_side (renewed t place kept side)) (far_side n)) (get_or_default t place blank_node d P.on);
          }
