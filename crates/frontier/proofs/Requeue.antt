-- A place is given another record and side: what each queue holds before, between and after the updates.
use Rattle.std.proofs.Common.{◌≡◌, ℕ, ◌<◌, ◌≤◌, Bool, true, false, List, map, length, get_or, set, is_some, Option, sym, ap, ◌∙◌, subst, ⊎_elim, arith, length-set, get_or-set_other, get_or-set_same}
use mathlib.Core.List.{map-map}
use lib.Seq.{map-set}
use Rattle.std.proofs.lemmas.List.{length-map}
use Rattle.std.proofs.lemmas.Bool.{cases_eq}
use Rattle.roster.specs.Check.{expected_in}
use Rattle.roster.specs.Holds.{Holds, put}
use Rattle.roster.specs.Update.{Updatable, QueueOnly, updated_count}
use Rattle.roster.proofs.Changing.{expected_set, expected_kept, some_if, if_some}
use Rattle.roster.proofs.Holding.{holds_same}
use Rattle.roster.proofs.Keeping.{kept_part, holds_set}
use Rattle.roster.proofs.Updating.{Updated, holds_kept_only}
use Rattle.search_model.specs.declared.records.Record.{Record}
use Rattle.search_model.specs.declared.search.Search.{Search}
use Rattle.search_model.specs.Choice.{within}
use Rattle.search_model.specs.Fields.{RecordLimits}
use Rattle.search_model.specs.Records.{at}
use Rattle.search_model.proofs.Table.{changed, changed_keeps}
use Rattle.frontier.specs.declared.frontier.Frontier.{Frontier}
use Rattle.table.specs.declared.node.Node.{Node}
use Rattle.frontier.specs.Frontier.{Puttable, with_kept, counted_by, far_side}
use Rattle.table.specs.Fresh.{blank_node}
use Rattle.table.specs.Table.{records}
use Rattle.table.proofs.OrderAsked.{expected_at}
use Rattle.frontier.proofs.Nodes.{node_at, renewed, written, face, faced, want_if}

-- A queue of the places that pass a test: its order, its entries and notes in the nodes, and the entry of a place, which names the place and reads
-- only the node's face. A node with another record and side keeps entry and note.
pub record Kind (E : Type 0) : Type 0 where
  pub at_most : E → E → Bool
  pub home : E → ℕ
  pub entry : Node → E
  pub note : Node → ℕ
  pub test : Node → Bool
  pub made : Node → ℕ → E
  pub names : (n : Node) (p : ℕ) → home (made n p) ≡ p
  pub reads : (n : Node) (p : ℕ) → want_if test made n p ≡ want_if test made (faced (face n)) p
  pub keeps_entry : (n : Node) (r : Record) (side : ℕ) → entry (with_kept n r side) ≡ entry n
  pub keeps_note : (n : Node) (r : Record) (side : ℕ) → note (with_kept n r side) ≡ note n

-- What a table wants in the queue.
abbrev pub expects : {E : Type 0} → Kind E → List Node → ℕ → Option E
expects K t = expected_in (want_if K.test K.made) t

-- The queue of n holds what is expected.
abbrev pub Held : {E : Type 0} → Kind E → (ℕ → Option E) → ℕ → List Node → Type 0
Held K x n u = Holds K.at_most K.home K.entry K.note x n u

-- One queue, when a place of t is given a record and a side.
module _ {E : Type 0} (K : Kind E) (t : List Node) (place : ℕ) (kept : Record) (side : ℕ) where
  abbrev new : Node
  new = renewed t place kept side

  -- The queue of n in u was updated, to one of m in v.
  pub record Requeued (n m : ℕ) (v : List Node) : Type 0 where
    pub held : Held K (put (expects K t) place (want_if K.test K.made new place)) m v
    pub count : m ≡ counted_by n (K.test new) (K.test (node_at t place))

  -- the record is written
  pub held_written : {x : ℕ → Option E} {n : ℕ} → Held K x n t → Held K x n (written t place kept side)
  held_written H = holds_set K.at_most K.home K.entry K.note H place blank_node new (K.keeps_entry _ kept side) (K.keeps_note _ kept side)

  module _ (on : place < length t) (n : ℕ) (was : Bool) (want : Option E) (u : List Node) (H : Held K (expects K t) n u) (w : was ≡ K.test (node_at t place)) (same : want ≡ want_if K.test K.made new place) where
    was_right : is_some (expects K t place) ≡ was
    was_right = ap is_some (expected_at (want_if K.test K.made) t place on) ∙ some_if (K.test (node_at t place)) (K.made (node_at t place) place) ∙ sym w

    -- the update may be made
    pub can_update : length u ≡ length t → length t ≤ 4096 → Updatable K.at_most K.home K.entry K.note 4294967296 n place was want u
    can_update long small = record {
      expected = expects K t;
      holds = H;
      before = was_right;
      within = omega (arith, on, long);
      noted = omega (arith, small, long);
      names = λ e some. ap K.home (sym (if_some (K.test new) (K.made new place) e (sym same ∙ some)).1) ∙ K.names new place;
    }

    -- and what it comes to
    pub requeued : (m : ℕ) (v : List Node) → Updated K.at_most K.home K.entry K.note n place was want u m v → m ≡ updated_count n was want → Requeued n m v
    requeued m v U is = record {
      held = subst (λ (o : Option E). Held K (put (expects K t) place o) m v) same (U (expects K t) H was_right);
      count =
          is ∙ ap (λ (b : Bool). counted_by n (is_some want) b) w
          ∙ ap (λ (b : Bool). counted_by n b (K.test (node_at t place))) (ap is_some same ∙ some_if (K.test new) (K.made new place));
    }

  -- the queue holds what the table wants after all updates
  pub at_last : (m : ℕ) (u : List Node) → place < length t → map face u ≡ map face (written t place kept side)
      → Held K (put (expects K t) place (want_if K.test K.made new place)) m u → Held K (expects K u) m u
  at_last m u on same H =
      holds_same K.at_most K.home K.entry K.note H
      (λ k. expected_set (want_if K.test K.made) t place new on k ∙ sym (expected_kept (want_if K.test K.made) face faced K.reads (written t place kept side) u same k))

-- the update of another queue
pub beside : {E F : Type 0} (K : Kind E) {get : Node → F} {with_get : Node → F → Node} {note : Node → ℕ} {with_note : Node → ℕ → Node} {u v : List Node} → QueueOnly get with_get note with_note u v
    → ((r : Node) (e : F) (m : ℕ) → K.entry (with_note (with_get r e) m) ≡ K.entry r) → ((r : Node) (e : F) (m : ℕ) → K.note (with_note (with_get r e) m) ≡ K.note r)
    → (x : ℕ → Option E) (n : ℕ) → Held K x n u → Held K x n v
beside K A a b x n H = holds_kept_only A K.at_most K.home K.entry K.note a b H

-- the records are a part of the faces
pub records_face : (t u : List Node) → map face u ≡ map face t → records u ≡ records t
records_face t u same =
    sym (map-map (λ (x : Record × ℕ). x.0) face u) ∙ ap (λ (zs : List (Record × ℕ)). map (λ (x : Record × ℕ). x.0) zs) same ∙ map-map (λ (x : Record × ℕ). x.0) face t

pub length_face : (t u : List Node) → map face u ≡ map face t → length u ≡ length t
length_face t u same = sym (length-map u face) ∙ ap (λ (zs : List (Record × ℕ)). length zs) same ∙ length-map t face

-- The rest of a table that is ready.
module _ {s : Search} {fr : Frontier} {t : List Node} {place : ℕ} {kept : Record} {side : ℕ} (P : Puttable s fr t place kept side) (old : Node) (u : List Node) (same : map face u ≡ map face (set t place (with_kept old kept side))) where
  pub put_records : records u ≡ set (records t) place kept
  put_records = records_face (set t place (with_kept old kept side)) u same ∙ map-set (λ (n : Node). n.kept) t place (with_kept old kept side)

  pub put_length : length u ≡ length t
  put_length = length_face (set t place (with_kept old kept side)) u same ∙ length-set t place (with_kept old kept side)

  pub put_limits : (p : ℕ) → RecordLimits (at (records u) p)
  put_limits p =
      let on : place < length (records t) = omega (arith, P.on, length-map t (λ (n : Node). n.kept)) in
      subst (λ (rs : List Record). RecordLimits (at rs p)) (sym put_records)
      (changed_keeps (changed (records t) place kept on) RecordLimits P.limits p (P.prepared.ready.limits p))

  same_faces : (d : Node) (p : ℕ) → face (get_or u p d) ≡ face (get_or (set t place (with_kept old kept side)) p d)
  same_faces = kept_part face (set t place (with_kept old kept side)) u (length_face (set t place (with_kept old kept side)) u same) same

  pub put_side : (d : Node) → (get_or u place d).side ≡ side
  put_side d = ap (λ (x : Record × ℕ). x.1) (same_faces d place) ∙ ap (λ (n : Node). n.side) (get_or-set_same t place (with_kept old kept side) d P.on)

  pub put_elsewhere : (d : Node) (p : ℕ) → (p ≡ place → ⊥) → ((get_or u p d).kept ≡ (get_or t p d).kept) × ((get_or u p d).side ≡ (get_or t p d).side)
  put_elsewhere d p ne =
      let e : face (get_or u p d) ≡ face (get_or t p d) = same_faces d p ∙ ap face (get_or-set_other t place p (with_kept old kept side) d ne) in
      (ap (λ (x : Record × ℕ). x.0) e, ap (λ (x : Record × ℕ). x.1) e)

  abbrev Covered : Record × ℕ → Type 0
  Covered x = far_side (faced x) ≡ true → within s fr.cover x.0 ≡ false

  covered_set : (d : Node) (p : ℕ) → p < length t → Covered (face (get_or (set t place (with_kept old kept side)) p d))
  covered_set d p l = ⊎_elim
      (λ (e : p ≡ place). subst (λ (n : Node). Covered (face n)) (sym (ap (λ (a : ℕ). get_or (set t place (with_kept old kept side)) a d) e ∙ get_or-set_same t place (with_kept old kept side) d P.on)) (P.beyond old))
      (λ ne. subst (λ (n : Node). Covered (face n)) (sym (get_or-set_other t place p (with_kept old kept side) d ne)) (P.prepared.ready.covered d p l))
      (cases_eq p place)

  pub put_covered : (d : Node) (p : ℕ) → p < length u → far_side (get_or u p d) ≡ true → within s fr.cover (get_or u p d).kept ≡ false
  put_covered d p l =
      subst Covered
      (sym (kept_part face (set t place (with_kept old kept side)) u (length_face (set t place (with_kept old kept side)) u same) same d p))
      (covered_set d p (omega (arith, l, put_length)))
