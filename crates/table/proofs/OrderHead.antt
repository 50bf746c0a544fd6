-- The head of the hope queue has the least f̂.
use Rattle.std.proofs.Common.{◌≡◌, ℕ, true, List, Some, None, Option, sym, ap, ◌∙◌, inl, inr, ⊎_elim, arith}
use Rattle.std.proofs.lemmas.Bool.{and_parts, or_cases, ltb-true, eqb-true, leb-true}
use Rattle.queue.specs.declared.entry.CostEntry.{CostEntry}
use Rattle.queue.specs.Keys.{cost_at_most}
use Rattle.roster.proofs.Expectations.{none_some}
use Rattle.roster.specs.Check.{expected_in}
use Rattle.roster.specs.Holds.{LeastExpected}
use Rattle.search_model.proofs.Heads.{Before, hope_is, hope_none}
use Rattle.search_model.specs.Records.{at, f_hat}
use Rattle.table.specs.declared.node.Node.{Node}
use Rattle.table.specs.Order.{cost_place}
use Rattle.table.specs.Table.{records, hope_wanted, least_hope}
use Rattle.table.proofs.OrderAsked.{open_some, some_open}

-- entries in order
at_most_before : (x y : CostEntry) → cost_at_most x y ≡ true → Before x.cost x.place y.cost y.place
at_most_before x y t = ⊎_elim
    (λ l. inl (ltb-true _ _ l))
    (λ b. let p = and_parts _ _ b in inr (eqb-true _ _ p.0, leb-true _ _ p.1))
    (or_cases _ _ t)

-- the cost of an entry, and 0 of none
abbrev pub cost_or_0 : Option CostEntry → ℕ
cost_or_0 None = 0
cost_or_0 (Some e) = e.cost

module _ (t : List Node) where
  abbrev pub hope_or_0 : Option ℕ → ℕ
  hope_or_0 None = 0
  hope_or_0 (Some h) = f_hat (at (records t) h)

  pub head_hope : (r : Option CostEntry) → LeastExpected cost_at_most cost_place (expected_in hope_wanted t) r → least_hope (records t) ≡ cost_or_0 r
  head_hope None none = ap hope_or_0 (hope_none (records t) (λ q o. none_some _ _ (none q) (open_some f_hat t q o)))
  head_hope (Some e) (is, first) =
      let opened = some_open f_hat t e.place e is in
      let cost : e.cost ≡ f_hat (at (records t) e.place) = ap (λ (x : CostEntry). x.cost) opened.1 in
      ap hope_or_0 (hope_is (records t) e.place opened.0 (λ q o.
      ⊎_elim (λ l. inl (omega arith)) (λ b. inr (omega (arith, b.0), b.1)) (at_most_before e _ (first q _ (open_some f_hat t q o)))))
      ∙ sym cost
