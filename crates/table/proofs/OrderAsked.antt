-- What the nodes of a table are asked for, by the table's records.
use Rattle.std.proofs.Common.{◌≡◌, ℕ, zero, suc, ◌+◌, ◌<◌, ◌≤◌, Bool, true, false, cond, List, length, get_or, is_some, Some, None, Option, sym, refl, ap, ◌∙◌, subst, ⊎_elim, arith}
use mathlib.Core.Path.{fun_ext}
use Rattle.std.proofs.lemmas.List.{get_or-map, get_or_default, get_or_past, length-map}
use Rattle.std.proofs.lemmas.Bool.{and_from, cases_Bool, cases_lt, cond-true, cond-false, eq-eqb, eqb-true, lt-ltb}
use Rattle.queue.specs.declared.entry.CostEntry.{CostEntry}
use Rattle.roster.proofs.Checking.{every_each}
use Rattle.roster.proofs.Wishes.{expected_past, expected_read}
use Rattle.roster.proofs.Expectations.{none_some, some_same}
use Rattle.roster.specs.Check.{expected_in}
use Rattle.roster.specs.Holds.{expected_count}
use Rattle.search_model.specs.declared.records.Record.{Record}
use Rattle.search_model.specs.Records.{at, blank, is_open, Open}
use Rattle.table.specs.declared.node.Node.{Node}
use Rattle.table.specs.Asked.{askable, asked, right_at, records_right, when}
use Rattle.table.specs.Fresh.{blank_node}
use Rattle.table.specs.Order.{record_right}
use Rattle.table.specs.Table.{records, open_entry}

-- the record of a node
abbrev pub kept_of : Node → Record
kept_of n = n.kept

-- the record of a place is its node's
pub records_at : (t : List Node) (h : ℕ) → at (records t) h ≡ (get_or t h blank_node).kept
records_at t h = ⊎_elim
    (λ l. get_or-map kept_of t h blank_node blank l)
    (λ past. get_or_past (records t) h blank (omega (arith, length-map t kept_of)) ∙ sym (ap kept_of (get_or_past t h blank_node past)))
    (cases_lt h (length t))

-- the record past the last place is blank
pub records_past : (t : List Node) (h : ℕ) → length t ≤ h → at (records t) h ≡ blank
records_past t h past = records_at t h ∙ ap kept_of (get_or_past t h blank_node past)

module _ {E : Type 0} (wanted : Node → ℕ → Option E) (t : List Node) where
  pub expected_at : (h : ℕ) → h < length t → expected_in wanted t h ≡ wanted (get_or t h blank_node) h
  expected_at h l = expected_read wanted t h (get_or t h blank_node) l (get_or_default t h blank_node _ l)

-- what is wanted of a node by its record is expected by the table's records
pub expected_by : {E : Type 0} (of : Record → ℕ → Option E) (t : List Node) (h : ℕ) → of blank h ≡ None → expected_in (λ (n : Node). of n.kept) t h ≡ of (at (records t) h) h
expected_by of t h none = ⊎_elim
    (λ l. expected_at (λ (n : Node). of n.kept) t h l ∙ ap (λ (r : Record). of r h) (sym (records_at t h)))
    (λ past. expected_past (λ (n : Node). of n.kept) t h past ∙ sym none ∙ ap (λ (r : Record). of r h) (sym (records_past t h past)))
    (cases_lt h (length t))

-- in a table whose records are within their limits every node is askable
pub asked_same : {E : Type 0} (wanted : Node → ℕ → Option E) (t : List Node) → records_right t ≡ true → length t ≤ 4294967296 → expected_in (asked wanted) t ≡ expected_in wanted t
asked_same wanted t right few = fun_ext (λ h. ⊎_elim
    (λ l. expected_at (asked wanted) t h l ∙ cond-true _ _ _ (askable_at h l) ∙ sym (expected_at wanted t h l))
    (λ past. expected_past (asked wanted) t h past ∙ sym (expected_past wanted t h past))
    (cases_lt h (length t)))
  where
    askable_at : (h : ℕ) → h < length t → askable (get_or t h blank_node) h ≡ true
    askable_at h l =
        and_from _ _
        (subst (λ (r : Record). record_right r ≡ true) (records_at t h) (every_each (right_at t) (length t) right h l))
        (lt-ltb h 4294967296 (omega arith))

-- an open place's entry, by its record
abbrev pub open_of : (Record → ℕ) → Record → ℕ → Option CostEntry
open_of key r h = when (is_open r) (record { cost = key r; place = h })

pub some_when : {A : Type 0} (b : Bool) (x : A) → is_some (when b x) ≡ b
some_when true x = refl
some_when false x = refl

module _ (key : Record → ℕ) (t : List Node) (h : ℕ) where
  pub expected_open : expected_in (open_entry key) t h ≡ open_of key (at (records t) h) h
  expected_open = expected_by (open_of key) t h refl

  -- of an open place an entry is expected
  pub open_some : Open (records t) h → expected_in (open_entry key) t h ≡ Some (record { cost = key (at (records t) h); place = h })
  open_some o = expected_open ∙ cond-true _ _ _ (eq-eqb (at (records t) h).mark 1 o)

  -- and of no other
  pub some_open : (e : CostEntry) → expected_in (open_entry key) t h ≡ Some e → Open (records t) h × (e ≡ record { cost = key (at (records t) h); place = h })
  some_open e is = ⊎_elim
      (λ o. (eqb-true (at (records t) h).mark 1 o, some_same _ e _ is (expected_open ∙ cond-true _ _ _ o)))
      (λ no. absurd (none_some _ e (expected_open ∙ cond-false _ _ _ no) is))
      (cases_Bool (is_open (at (records t) h)))

  is_expected : is_some (expected_in (open_entry key) t h) ≡ is_open (at (records t) h)
  is_expected = ap is_some expected_open ∙ some_when (is_open (at (records t) h)) _

-- queues of every open place want the same places, by any key
pub counts_same : (key other : Record → ℕ) (t : List Node) (m : ℕ) → expected_count (expected_in (open_entry key) t) m ≡ expected_count (expected_in (open_entry other) t) m
counts_same key other t zero = refl
counts_same key other t (suc m) =
    ap (λ (n : ℕ). n + cond (is_some (expected_in (open_entry key) t m)) 1 0) (counts_same key other t m)
    ∙ ap (λ (b : Bool). expected_count (expected_in (open_entry other) t) m + cond b 1 0) (is_expected key t m ∙ sym (is_expected other t m))
