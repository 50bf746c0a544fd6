-- The heads of the queues are low, hope and near.
use Rattle.std.proofs.Common.{◌≡◌, ℕ, ◌*◌, ◌<◌, ◌≤◌, Bool, true, false, not, cond, eqb, ltb, leb, ◌⊎◌, List, length, Some, None, Option, sym, refl, ap, ◌∙◌, subst, inl, inr, ⊎_elim, mul-le-mul_right, arith}
use Rattle.std.proofs.lemmas.List.{length-map}
use Rattle.std.proofs.lemmas.Bool.{or_cases, and_parts, and_from, ltb-true, eqb-true, eq-eqb, leb-true, le-leb, both_ways, cases_Bool, not_from_false}
use Rattle.std.specs.Option.{option_map_or}
use Rattle.std.proofs.lemmas.Map.Entries.{option_filter}
use Rattle.queue.specs.Calls.{Head}
use Rattle.queue.specs.Entries.{entries}
use Rattle.queue.specs.Keys.{cost_at_most, near_at_most}
use Rattle.queue.specs.declared.entry.CostEntry.{CostEntry}
use Rattle.queue.specs.declared.entry.NearEntry.{NearEntry}
use Rattle.roster.specs.Check.{expected_in}
use Rattle.roster.specs.Holds.{LeastExpected}
use Rattle.roster.proofs.Expectations.{none_some}
use Rattle.roster.proofs.Holding.{holds_head}
use Rattle.search_model.specs.declared.records.Record.{Record}
use Rattle.search_model.specs.declared.search.Search.{Search}
use Rattle.search_model.specs.Advance.{low_mark}
use Rattle.search_model.specs.Choice.{within, rank, choice, low_place, hope_place, near_place}
use Rattle.search_model.specs.Records.{at, is_open, f, f_hat, Open}
use Rattle.search_model.proofs.Chosen.{head_open}
use Rattle.search_model.proofs.Heads.{Before, Near, NearBefore, low_is, low_none, hope_is, near_is, choice_near, choice_hope, choice_low}
use Rattle.search_model.proofs.Table.{seen_on}
use Rattle.frontier.specs.declared.frontier.Frontier.{Frontier}
use Rattle.table.specs.declared.node.Node.{Node}
use Rattle.frontier.specs.Choose.{Choosing, NearReady, StillReady}
use Rattle.frontier.specs.Frontier.{Prepared, near_side_wanted, near_side}
use Rattle.frontier.specs.Moves.{HeadWithin, EntryWithin, Dropped}
use Rattle.table.specs.Order.{cost_place, near_place_of}
use Rattle.table.specs.Seats.{low_entry, low_note, hope_entry, hope_note, near_entry, near_note}
use Rattle.frontier.proofs.Chains.{filter_some, filter_none}
use Rattle.table.specs.Table.{records, open_entry, low_wanted, hope_wanted, near_entry_of}
use Rattle.table.specs.Fresh.{blank_node}
use Rattle.table.proofs.OrderAsked.{records_at, open_some, some_open}
use Rattle.frontier.proofs.Nodes.{node_at}
use Rattle.frontier.proofs.Reading.{wants, wanted_here, cost_before}

-- an open place is on the table
on_table : (t : List Node) (q : ℕ) → Open (records t) q → q < length t
on_table t q o = omega (arith, seen_on (records t) q (omega arith), length-map t (λ (n : Node). n.kept))

-- Queues of every open place by a key.
module _ (key : Record → ℕ) (t : List Node) where
  pub nothing_open : LeastExpected cost_at_most cost_place (expected_in (open_entry key) t) None → (q : ℕ) → Open (records t) q → ⊥
  nothing_open L q o = none_some _ _ (L q) (open_some key t q o)

  module _ (e : CostEntry) (L : LeastExpected cost_at_most cost_place (expected_in (open_entry key) t) (Some e)) where
    pub head_opened : Open (records t) e.place
    head_opened = (some_open key t e.place e L.0).0

    pub head_cost : key (at (records t) e.place) ≡ e.cost
    head_cost = sym (ap (λ (x : CostEntry). x.cost) (some_open key t e.place e L.0).1)

    pub head_first : (q : ℕ) → Open (records t) q → Before (key (at (records t) e.place)) e.place (key (at (records t) q)) q
    head_first q o = subst (λ (k : ℕ). Before k e.place (key (at (records t) q)) q) (sym head_cost) (cost_before e _ (L.1 q _ (open_some key t q o)))

-- What the head of the low queue says.
module _ {s : Search} {fr : Frontier} {t : List Node} (P : Prepared s fr t) (o : Option CostEntry) (H : Head cost_at_most fr.opened (entries low_entry fr.opened t) o) where
  least_low : LeastExpected cost_at_most cost_place (expected_in low_wanted t) o
  least_low = holds_head cost_at_most cost_place low_entry low_note P.ready.low o H

  module _ (e : CostEntry) (is : o ≡ Some e) where
    first_low : LeastExpected cost_at_most cost_place (expected_in low_wanted t) (Some e)
    first_low = subst (LeastExpected cost_at_most cost_place (expected_in low_wanted t)) is least_low

    pub low_first : low_place (records t) ≡ Some e.place
    low_first = low_is (records t) e.place (head_opened f t e first_low) (head_first f t e first_low)

    pub low_mark_first : low_mark (records t) ≡ Some e.cost
    low_mark_first = rw (low_first, low_mark) (ap Some (head_cost f t e first_low))

  pub low_mark_none : o ≡ None → low_mark (records t) ≡ None
  low_mark_none is = rw (low_none (records t) (nothing_open f t (subst (LeastExpected cost_at_most cost_place (expected_in low_wanted t)) is least_low)), low_mark)

pub hope_first : (t : List Node) (e : CostEntry) → LeastExpected cost_at_most cost_place (expected_in hope_wanted t) (Some e) → hope_place (records t) ≡ Some e.place
hope_first t e L = hope_is (records t) e.place (head_opened f_hat t e L) (head_first f_hat t e L)

-- The order of near entries.
abbrev EntryBefore : NearEntry → NearEntry → Type 0
EntryBefore x y = (x.steps < y.steps) ⊎ ((x.steps ≡ y.steps) × Before x.cost x.place y.cost y.place)

near_before : (x y : NearEntry) → near_at_most x y ≡ true → EntryBefore x y
near_before x y e = ⊎_elim
    (λ a. inl (ltb-true x.steps y.steps a))
    (λ a.
    let b = and_parts (eqb x.steps y.steps) _ a in
    inr (
      eqb-true x.steps y.steps b.0,
      cost_before (record { cost = x.cost; place = x.place }) (record { cost = y.cost; place = y.place }) b.1,
    ))
    (or_cases (ltb x.steps y.steps) _ e)

same_cost : (x y : NearEntry) → EntryBefore x y → EntryBefore y x → x.cost ≡ y.cost
same_cost x y (inl a) (inl b) = absurd (omega arith)
same_cost x y (inl a) (inr (e, b)) = absurd (omega arith)
same_cost x y (inr (e, a)) (inl b) = absurd (omega arith)
same_cost x y (inr (e, inl a)) (inr (e', inl b)) = absurd (omega arith)
same_cost x y (inr (e, inl a)) (inr (e', inr b)) = absurd (omega (arith, b.0))
same_cost x y (inr (e, inr a)) (inr (e', b)) = a.0

-- The near queue with the near side up to date.
module _ {s : Search} {fr : Frontier} {t : List Node} {hope mark : ℕ} (N : NearReady s fr t hope mark) where
  abbrev rs : List Record
  rs = records t

  abbrev least : ℕ
  least = f_hat (at rs hope)

  -- every near place is on the near side
  near_there : (q : ℕ) → Near s rs least q → expected_in (near_side_wanted s) t q ≡ Some (near_entry_of s (node_at t q) q)
  near_there q n = wanted_here near_side (near_entry_of s) t q on (and_from (is_open (node_at t q).kept) (eqb (node_at t q).side 1) opened sided)
    where
      on : q < length t
      on = on_table t q n.opened

      opened : is_open (node_at t q).kept ≡ true
      opened = subst (λ (r : Record). is_open r ≡ true) (records_at t q) (eq-eqb (at rs q).mark 1 n.opened)

      close : within s fr.cover (node_at t q).kept ≡ true
      close =
          subst (λ (c : ℕ). within s c (node_at t q).kept ≡ true) (sym N.covers)
          (subst (λ (r : Record). within s least r ≡ true) (records_at t q) (le-leb (s.bound.b * f_hat (at rs q)) (s.bound.a * least) n.close))

      sided : eqb (node_at t q).side 1 ≡ true
      sided = ⊎_elim
          (λ x. x)
          (λ x. absurd (both_ways (within s fr.cover (node_at t q).kept)
          (N.choosing.prepared.ready.covered blank_node q on (and_from (is_open (node_at t q).kept) (not (eqb (node_at t q).side 1)) opened (not_from_false (eqb (node_at t q).side 1) x))) close))
          (cases_Bool (eqb (node_at t q).side 1))

  hope_near : Near s rs least hope
  hope_near = record { opened = head_open f_hat rs hope N.is_hope; close = mul-le-mul_right least N.choosing.bounded }

  pub near_some : LeastExpected near_at_most near_place_of (expected_in (near_side_wanted s) t) None → ⊥
  near_some L = none_some (expected_in (near_side_wanted s) t hope) _ (L hope) (near_there hope hope_near)

  module _ (e : NearEntry) (L : LeastExpected near_at_most near_place_of (expected_in (near_side_wanted s) t) (Some e)) where
    entry_is : near_entry_of s (node_at t e.place) e.place ≡ e
    entry_is = (wants near_side (near_entry_of s) t e.place e L.0).2

    head_close : leb (s.bound.b * e.cost) (s.bound.a * least) ≡ true
    head_close = by N.head.first N.head.least N.head.close
      where
        by : (o : Option NearEntry) → LeastExpected near_at_most near_place_of (expected_in (near_side_wanted s) t) o → EntryWithin s least o → leb (s.bound.b * e.cost) (s.bound.a * least) ≡ true
        by None M c = absurd (near_some M)
        by (Some x) M c =
            subst (λ (k : ℕ). leb (s.bound.b * k) (s.bound.a * least) ≡ true)
            (same_cost x e (near_before x e (M.1 e.place e L.0)) (near_before e x (L.1 x.place x M.0))) c

    pub near_cost : f_hat (at rs e.place) ≡ e.cost
    near_cost = ap f_hat (records_at t e.place) ∙ ap (λ (x : NearEntry). x.cost) entry_is

    near_steps : rank s (at rs e.place) ≡ e.steps
    near_steps = ap (rank s) (records_at t e.place) ∙ ap (λ (x : NearEntry). x.steps) entry_is

    head_near : Near s rs least e.place
    head_near = record {
      opened = eqb-true (at rs e.place).mark 1 (subst (λ (r : Record). is_open r ≡ true) (sym (records_at t e.place))
          (and_parts (is_open (node_at t e.place).kept) (eqb (node_at t e.place).side 1) (wants near_side (near_entry_of s) t e.place e L.0).1).0);
      close = subst (λ (k : ℕ). s.bound.b * k ≤ s.bound.a * least) (sym near_cost) (leb-true (s.bound.b * e.cost) (s.bound.a * least) head_close);
    }

    before : (q : ℕ) → Near s rs least q → NearBefore s rs e.place q
    before q n =
        let b = near_before e (near_entry_of s (node_at t q) q) (L.1 q (near_entry_of s (node_at t q) q) (near_there q n)) in
        subst (λ (k : ℕ). (k < rank s (at rs q)) ⊎ ((k ≡ rank s (at rs q)) × Before (f_hat (at rs e.place)) e.place (f_hat (at rs q)) q)) (sym near_steps)
        (subst (λ (k : ℕ). (e.steps < rank s (at rs q)) ⊎ ((e.steps ≡ rank s (at rs q)) × Before k e.place (f_hat (at rs q)) q)) (sym near_cost)
        (subst (λ (r : Record). (e.steps < rank s r) ⊎ ((e.steps ≡ rank s r) × Before e.cost e.place (f_hat r) q)) (sym (records_at t q)) b))

    pub near_first : near_place s rs ≡ Some e.place
    near_first = near_is s rs hope e.place N.is_hope head_near before

  pub near_chosen : (e : NearEntry) → LeastExpected near_at_most near_place_of (expected_in (near_side_wanted s) t) (Some e) → leb (s.bound.b * e.cost) (s.bound.a * mark) ≡ true → choice s mark rs ≡ Some e.place
  near_chosen e L w =
      choice_near s mark rs e.place (near_first e L) (subst (λ (k : ℕ). leb (s.bound.b * k) (s.bound.a * mark) ≡ true) (sym (near_cost e L)) w)

  pub hope_chosen : (e : NearEntry) → LeastExpected near_at_most near_place_of (expected_in (near_side_wanted s) t) (Some e) → leb (s.bound.b * e.cost) (s.bound.a * mark) ≡ false → choice s mark rs ≡ Some hope
  hope_chosen e L out =
      choice_hope s mark rs e.place hope (near_first e L) (subst (λ (k : ℕ). leb (s.bound.b * k) (s.bound.a * mark) ≡ false) (sym (near_cost e L)) out) N.is_hope N.close

  -- the choice of near or hope
  pub near_or_hope_chosen : (o : Option NearEntry) {r : Option NearEntry} {p : ℕ} → Head near_at_most fr.nears (entries near_entry fr.nears t) o
      → r ≡ option_filter (λ (e : NearEntry). leb (s.bound.b * e.cost) (s.bound.a * mark)) o → p ≡ option_map_or (λ (e : NearEntry). e.place) r hope
      → choice s mark rs ≡ Some p
  near_or_hope_chosen o H f m =
      at o (holds_head near_at_most near_place_of near_entry near_note N.choosing.prepared.ready.near o H)
      ∙ ap Some (sym (m ∙ ap (λ (r : Option NearEntry). option_map_or (λ (e : NearEntry). e.place) r hope) f))
    where
      at : (o : Option NearEntry) → LeastExpected near_at_most near_place_of (expected_in (near_side_wanted s) t) o
          → choice s mark rs ≡ Some (option_map_or (λ (e : NearEntry). e.place) (option_filter (λ (e : NearEntry). leb (s.bound.b * e.cost) (s.bound.a * mark)) o) hope)
      at None L = absurd (near_some L)
      at (Some e) L = by (leb (s.bound.b * e.cost) (s.bound.a * mark)) refl
        where
          by : (b : Bool) → leb (s.bound.b * e.cost) (s.bound.a * mark) ≡ b → choice s mark rs ≡ Some (option_map_or (λ (e : NearEntry). e.place) (cond b (Some e) None) hope)
          by true w = near_chosen e L w
          by false w = hope_chosen e L w

-- The choice by hope, the head of the hope queue, if it is within the mark.
module _ {s : Search} {fr : Frontier} {t : List Node} (C : Choosing s fr t) (mark : ℕ) (o : Option CostEntry) {r : Option CostEntry}
    (H : Head cost_at_most fr.opened (entries hope_entry fr.opened t) o) (passed : r ≡ option_filter (λ (e : CostEntry). leb (s.bound.b * e.cost) (s.bound.a * mark)) o)
  where
    least_hope_entry : LeastExpected cost_at_most cost_place (expected_in hope_wanted t) o
    least_hope_entry = holds_head cost_at_most cost_place hope_entry hope_note C.prepared.ready.hope o H

    pub near_ready : (e : CostEntry) {fr' : Frontier} {t' : List Node} → r ≡ Some e → Dropped s t e.cost fr' t' → NearReady s fr' t' e.place mark
    near_ready e {fr'} {t'} is D = record {
      choosing = record { prepared = D.same.prepared; bounded = C.bounded };
      is_hope = ap hope_place D.same.same_records ∙ hope_first t e L;
      close = subst (λ (k : ℕ). leb (s.bound.b * k) (s.bound.a * mark) ≡ true) (sym cost_is) w.1;
      covers = D.same.covers ∙ sym cost_is;
      head = subst (HeadWithin s t') (sym cost_is) D.head;
    }
      where
        w : (o ≡ Some e) × (leb (s.bound.b * e.cost) (s.bound.a * mark) ≡ true)
        w = filter_some _ o e (sym passed ∙ is)

        L : LeastExpected cost_at_most cost_place (expected_in hope_wanted t) (Some e)
        L = subst (LeastExpected cost_at_most cost_place (expected_in hope_wanted t)) w.0 least_hope_entry

        cost_is : f_hat (at (records t') e.place) ≡ e.cost
        cost_is = ap (λ (rs : List Record). f_hat (at rs e.place)) D.same.same_records ∙ head_cost f_hat t e L

    -- low where hope is not within it; where low is a place, hope is one too
    pub low_chosen : (low : ℕ) → low_place (records t) ≡ Some low → r ≡ None → choice s mark (records t) ≡ Some low
    low_chosen low is none = by o least_hope_entry (sym passed ∙ none)
      where
        by : (o : Option CostEntry) → LeastExpected cost_at_most cost_place (expected_in hope_wanted t) o → option_filter (λ (e : CostEntry). leb (s.bound.b * e.cost) (s.bound.a * mark)) o ≡ None
            → choice s mark (records t) ≡ Some low
        by None L stop = absurd (nothing_open f_hat t L low (head_open f (records t) low is))
        by (Some e) L stop =
            choice_low s mark (records t) e.place (hope_first t e L)
            (subst (λ (k : ℕ). leb (s.bound.b * k) (s.bound.a * mark) ≡ false) (sym (head_cost f_hat t e L)) (filter_none (λ (e : CostEntry). leb (s.bound.b * e.cost) (s.bound.a * mark)) e stop)) ∙ is

-- nothing is moved
pub still_ready : {s : Search} {fr : Frontier} {t : List Node} → Prepared s fr t → StillReady s t fr t
still_ready P = record { prepared = P; same_records = refl; same_length = refl }
