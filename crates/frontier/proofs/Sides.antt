-- Places that change sides.
use Rattle.std.proofs.Common.{◌≡◌, ℕ, ◌*◌, ◌<◌, ◌≤◌, Bool, true, false, not, cond, eqb, leb, List, get_or, set, Some, None, Option, sym, refl, ap, ◌∙◌, subst, mul-le-mul_left, arith}
use Rattle.std.specs.Option.{option_map}
use Rattle.std.proofs.lemmas.Map.Entries.{option_filter}
use Rattle.std.proofs.lemmas.List.{get_or_default, set-get_or}
use Rattle.std.proofs.lemmas.Bool.{and_right, lt-leb, leb-false}
use Rattle.queue.specs.Calls.{Head}
use Rattle.queue.specs.Entries.{entries}
use Rattle.queue.specs.Keys.{cost_at_most, near_at_most}
use Rattle.queue.specs.declared.entry.CostEntry.{CostEntry}
use Rattle.queue.specs.declared.entry.NearEntry.{NearEntry}
use Rattle.roster.specs.Check.{expected_in}
use Rattle.roster.specs.Holds.{LeastExpected}
use Rattle.roster.proofs.Expectations.{none_some}
use Rattle.roster.proofs.Holding.{holds_head}
use Rattle.search_model.specs.declared.records.Record.{Record}
use Rattle.search_model.specs.declared.search.Search.{Search}
use Rattle.search_model.specs.Choice.{within}
use Rattle.search_model.specs.Fields.{RecordLimits}
use Rattle.search_model.specs.Records.{blank, is_open, f_hat}
use Rattle.frontier.specs.declared.frontier.Frontier.{Frontier}
use Rattle.table.specs.declared.node.Node.{Node}
use Rattle.frontier.specs.Frontier.{Prepared, Puttable, AllBeyond, PutDone, counted_by, far_side_wanted, near_side_wanted, near_side, far_side}
use Rattle.frontier.specs.Moves.{Movable, Moved, OnSide, FarWithin, NearBeyond, sided}
use Rattle.table.specs.Order.{cost_place, near_place_of}
use Rattle.table.specs.Seats.{near_entry, near_note, far_entry, far_note}
use Rattle.table.specs.Table.{records, near_entry_of}
use Rattle.table.specs.Fresh.{blank_node}
use Rattle.table.proofs.OrderAsked.{records_at}
use Rattle.frontier.proofs.Nodes.{node_at}
use Rattle.frontier.proofs.Reading.{node_limits, wants, wanted_here, by_default, cost_before, before_le}

-- an open place's entry by f̂
abbrev hope_made : Node → ℕ → CostEntry
hope_made n p = record { cost = f_hat n.kept; place = p }

-- A place that is given its own record again.
module _ {s : Search} {fr : Frontier} {t : List Node} {place side : ℕ} (M : Movable s fr t place side) where
  pub kept_limits : RecordLimits (node_at t place).kept
  kept_limits = node_limits t place (M.prepared.ready.limits place)

  pub can_move : Puttable s fr t place (node_at t place).kept side
  can_move = record { prepared = M.prepared; on = M.on; limits = kept_limits; beyond = λ d. M.beyond blank_node }

  pub moved : {fr' : Frontier} {t' : List Node} → PutDone s fr t place (node_at t place).kept side fr' t' → Moved s fr t place side fr' t'
  moved {fr'} {t'} D = record {
    same = record {
      prepared = D.put.prepared;
      same_records = D.put.records_set ∙ ap (λ (r : Record). set (records t) place r) (sym (records_at t place)) ∙ set-get_or (records t) place blank;
      same_length = D.put.same_length;
      covers = D.put.same_cover;
    };
    there = D.there;
    others = D.others;
    nears = λ d. by_default (λ (n : Node). fr'.nears ≡ counted_by fr.nears (near_side (sided n side)) (near_side n)) t place M.on (D.nears blank_node) d;
    fars = λ d. by_default (λ (n : Node). fr'.fars ≡ counted_by fr.fars (far_side (sided n side)) (far_side n)) t place M.on (D.fars blank_node) d;
  }

-- The numbers fall.
fewer : (n m : ℕ) (comes goes : Bool) → m ≡ counted_by n comes goes → comes ≡ false → goes ≡ true → 0 < n → m < n
fewer n m comes goes is c g used =
    omega (arith, is ∙ ap (λ (b : Bool). counted_by n b goes) c ∙ ap (λ (b : Bool). counted_by n false b) g)

module _ {s : Search} {fr fr' : Frontier} {t t' : List Node} {place : ℕ} where
  pub fewer_far : Moved s fr t place 1 fr' t' → OnSide far_side t fr.fars place → fr'.fars < fr.fars
  fewer_far M O = fewer fr.fars fr'.fars _ _ (M.fars blank_node) (and_right (is_open (node_at t place).kept) (not (eqb 1 1)) refl) (O.there blank_node) O.used

  pub fewer_near : Moved s fr t place 0 fr' t' → OnSide near_side t fr.nears place → fr'.nears < fr.nears
  fewer_near M O = fewer fr.nears fr'.nears _ _ (M.nears blank_node) (and_right (is_open (node_at t place).kept) (eqb 0 1) refl) (O.there blank_node) O.used

-- beyond a cover is beyond every lower one
pub beyond_lower : (s : Search) (t : List Node) (cover least : ℕ) → least ≤ cover → AllBeyond s t cover → AllBeyond s t least
beyond_lower s t cover least le out d p l far =
    let x = s.bound.b * f_hat (get_or t p d).kept in
    let over : s.bound.a * cover < x = leb-false x (s.bound.a * cover) (out d p l far) in
    let less : s.bound.a * least ≤ s.bound.a * cover = mul-le-mul_left s.bound.a le in
    lt-leb x (s.bound.a * least) (omega arith)

-- What the head of the far queue says.
module _ (s : Search) (t : List Node) (cover : ℕ) where
  pub none_beyond : LeastExpected cost_at_most cost_place (expected_in far_side_wanted t) None → AllBeyond s t cover
  none_beyond L d p l far =
      absurd (none_some (expected_in far_side_wanted t p) _ (L p)
      (wanted_here far_side hope_made t p l (subst (λ (n : Node). far_side n ≡ true) (get_or_default t p d blank_node l) far)))

  pub head_beyond : (e : CostEntry) → LeastExpected cost_at_most cost_place (expected_in far_side_wanted t) (Some e) → leb (s.bound.b * e.cost) (s.bound.a * cover) ≡ false → AllBeyond s t cover
  head_beyond e L out d p l far =
      by_default (λ (n : Node). within s cover n.kept ≡ false) t p l here d
    where
      there : far_side (node_at t p) ≡ true
      there = subst (λ (n : Node). far_side n ≡ true) (get_or_default t p d blank_node l) far

      least : e.cost ≤ f_hat (node_at t p).kept
      least = before_le _ e.place _ p (cost_before e (hope_made (node_at t p) p) (L.1 p (hope_made (node_at t p) p) (wanted_here far_side hope_made t p l there)))

      here : within s cover (node_at t p).kept ≡ false
      here =
          let over : s.bound.a * cover < s.bound.b * e.cost = leb-false (s.bound.b * e.cost) (s.bound.a * cover) out in
          let more : s.bound.b * e.cost ≤ s.bound.b * f_hat (node_at t p).kept = mul-le-mul_left s.bound.b least in
          lt-leb (s.bound.b * f_hat (node_at t p).kept) (s.bound.a * cover) (omega arith)

-- The place of a head is on its side.
pub far_on : (s : Search) (t : List Node) (n : ℕ) (e : CostEntry) → 0 < n → expected_in far_side_wanted t e.place ≡ Some e → OnSide far_side t n e.place
far_on s t n e used is =
    let w = wants far_side hope_made t e.place e is in
    record { on = w.0; there = by_default (λ (n : Node). far_side n ≡ true) t e.place w.0 w.1; used = used }

pub near_on : (s : Search) (t : List Node) (n : ℕ) (e : NearEntry) → 0 < n → expected_in (near_side_wanted s) t e.place ≡ Some e → OnSide near_side t n e.place
near_on s t n e used is =
    let w = wants near_side (near_entry_of s) t e.place e is in
    record { on = w.0; there = by_default (λ (n : Node). near_side n ≡ true) t e.place w.0 w.1; used = used }

-- and its cost is the place's f̂
pub near_out : (s : Search) (t : List Node) (cover : ℕ) (e : NearEntry) → expected_in (near_side_wanted s) t e.place ≡ Some e → leb (s.bound.b * e.cost) (s.bound.a * cover) ≡ false
    → (d : Node) → within s cover (get_or t e.place d).kept ≡ false
near_out s t cover e is out d =
    let w = wants near_side (near_entry_of s) t e.place e is in
    by_default (λ (n : Node). within s cover n.kept ≡ false) t e.place w.0
    (subst (λ (c : ℕ). leb (s.bound.b * c) (s.bound.a * cover) ≡ false) (sym (ap (λ (x : NearEntry). x.cost) w.2)) out) d

-- The heads of both queues against a cover.
module _ {s : Search} {fr : Frontier} {t : List Node} (P : Prepared s fr t) (cover : ℕ) where
  -- the head, if it is within the cover
  pub far_first : (o : Option CostEntry) {r : Option CostEntry} {m : Option ℕ} → Head cost_at_most fr.fars (entries far_entry fr.fars t) o
      → r ≡ option_filter (λ (e : CostEntry). leb (s.bound.b * e.cost) (s.bound.a * cover)) o → m ≡ option_map (λ (e : CostEntry). e.place) r
      → FarWithin s fr t cover m
  far_first o {r} H f m =
      subst (FarWithin s fr t cover) (sym (m ∙ ap (option_map (λ (e : CostEntry). e.place)) f)) (at o H (holds_head cost_at_most cost_place far_entry far_note P.ready.far o H))
    where
      at : (o : Option CostEntry) → Head cost_at_most fr.fars (entries far_entry fr.fars t) o → LeastExpected cost_at_most cost_place (expected_in far_side_wanted t) o
          → FarWithin s fr t cover (option_map (λ (e : CostEntry). e.place) (option_filter (λ (e : CostEntry). leb (s.bound.b * e.cost) (s.bound.a * cover)) o))
      at None H L = none_beyond s t cover L
      at (Some e) H L = by (leb (s.bound.b * e.cost) (s.bound.a * cover)) refl
        where
          by : (b : Bool) → leb (s.bound.b * e.cost) (s.bound.a * cover) ≡ b → FarWithin s fr t cover (option_map (λ (e : CostEntry). e.place) (cond b (Some e) None))
          by true w = far_on s t fr.fars e H.used L.0
          by false w = head_beyond s t cover e L w

  -- the head, if it is beyond the cover
  pub near_past : (o : Option NearEntry) {r : Option NearEntry} {m : Option ℕ} → Head near_at_most fr.nears (entries near_entry fr.nears t) o
      → r ≡ option_filter (λ (e : NearEntry). not (leb (s.bound.b * e.cost) (s.bound.a * cover))) o → m ≡ option_map (λ (e : NearEntry). e.place) r
      → NearBeyond s fr t cover m
  near_past o {r} H f m =
      subst (NearBeyond s fr t cover) (sym (m ∙ ap (option_map (λ (e : NearEntry). e.place)) f)) (at o H (holds_head near_at_most near_place_of near_entry near_note P.ready.near o H))
    where
      at : (o : Option NearEntry) → Head near_at_most fr.nears (entries near_entry fr.nears t) o → LeastExpected near_at_most near_place_of (expected_in (near_side_wanted s) t) o
          → NearBeyond s fr t cover (option_map (λ (e : NearEntry). e.place) (option_filter (λ (e : NearEntry). not (leb (s.bound.b * e.cost) (s.bound.a * cover))) o))
      at None H L = record { first = None; least = L; close = tt }
      at (Some e) H L = by (leb (s.bound.b * e.cost) (s.bound.a * cover)) refl
        where
          by : (b : Bool) → leb (s.bound.b * e.cost) (s.bound.a * cover) ≡ b → NearBeyond s fr t cover (option_map (λ (e : NearEntry). e.place) (cond (not b) (Some e) None))
          by true w = record { first = Some e; least = L; close = w }
          by false w = (near_on s t fr.nears e H.used L.0, near_out s t cover e L.0 w)
