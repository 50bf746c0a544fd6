-- What a table wants of a place, read off the place's node.
use Rattle.std.proofs.Common.{◌≡◌, ℕ, ◌+◌, ◌<◌, ◌≤◌, Bool, true, ◌&&◌, eqb, ltb, leb, List, length, get_or, Some, sym, ◌∙◌, subst, inl, inr, ⊎_elim, arith}
use Rattle.std.proofs.lemmas.List.{get_or_default}
use Rattle.std.proofs.lemmas.Bool.{cases_lt, cond-true, or_cases, and_parts, ltb-true, leb-true, eqb-true}
use Rattle.queue.specs.Keys.{cost_at_most}
use Rattle.queue.specs.declared.entry.CostEntry.{CostEntry}
use Rattle.roster.specs.Check.{expected_in}
use Rattle.roster.proofs.Changing.{if_some}
use Rattle.roster.proofs.Wishes.{expected_past}
use Rattle.roster.proofs.Expectations.{none_some}
use Rattle.search_model.specs.Fields.{RecordLimits}
use Rattle.search_model.specs.Records.{at}
use Rattle.search_model.proofs.Heads.{Before}
use Rattle.table.specs.declared.node.Node.{Node}
use Rattle.table.specs.Fresh.{blank_node}
use Rattle.table.specs.Table.{records}
use Rattle.table.proofs.OrderAsked.{records_at, expected_at}
use Rattle.frontier.proofs.Nodes.{node_at, want_if}

-- the entries of the nodes that pass a test
module _ {E : Type 0} (test : Node → Bool) (entry : Node → ℕ → E) where
  pub wants : (t : List Node) (p : ℕ) (e : E) → expected_in (want_if test entry) t p ≡ Some e → (p < length t) × (test (node_at t p) ≡ true) × (entry (node_at t p) p ≡ e)
  wants t p e is = ⊎_elim
      (λ l. let x = if_some (test (node_at t p)) (entry (node_at t p) p) e (sym (expected_at (want_if test entry) t p l) ∙ is) in (l, x.0, x.1))
      (λ past. absurd (none_some (expected_in (want_if test entry) t p) e (expected_past (want_if test entry) t p past) is))
      (cases_lt p (length t))

  pub wanted_here : (t : List Node) (p : ℕ) → p < length t → test (node_at t p) ≡ true → expected_in (want_if test entry) t p ≡ Some (entry (node_at t p) p)
  wanted_here t p l pass = expected_at (want_if test entry) t p l ∙ cond-true (test (node_at t p)) _ _ pass

-- the limits of a place's record
pub node_limits : (t : List Node) (p : ℕ) → RecordLimits (at (records t) p) → RecordLimits (node_at t p).kept
node_limits t p = subst RecordLimits (records_at t p)

-- what holds of the node of a place, by any default
pub by_default : (P : Node → Type 0) (t : List Node) (p : ℕ) → p < length t → P (node_at t p) → (d : Node) → P (get_or t p d)
by_default P t p l h d = subst P (get_or_default t p blank_node d l) h

-- the orders of the entries
pub cost_before : (x y : CostEntry) → cost_at_most x y ≡ true → Before x.cost x.place y.cost y.place
cost_before x y e = ⊎_elim
    (λ a. inl (ltb-true x.cost y.cost a))
    (λ a. let b = and_parts (eqb x.cost y.cost) (leb x.place y.place) a in inr (eqb-true x.cost y.cost b.0, leb-true x.place y.place b.1))
    (or_cases (ltb x.cost y.cost) (eqb x.cost y.cost && leb x.place y.place) e)

pub before_le : (x p y q : ℕ) → Before x p y q → x ≤ y
before_le x p y q b = ⊎_elim (λ (l : x < y). omega arith) (λ e. omega (arith, e.0)) b

-- a place below the next one, but for the last, is below it
pub not_last : (p n : ℕ) → p < n + 1 → (p ≡ n → ⊥) → p < n
not_last p n l ne = omega arith
