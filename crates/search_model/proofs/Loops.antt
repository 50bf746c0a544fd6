-- Invariants for code that runs the definition in a loop: what is left comes to the whole.
use Rattle.std.proofs.Common.{◌≡◌, ℕ, suc, ◌+◌, ◌-◌, ◌<◌, ◌≤◌, true, false, List, [], ◌∷◌, ◌++◌, Some, None, Option, refl, ap, ◌∙◌, subst, append_assoc, append-nil, add-zero, add_assoc, arith}
use Rattle.floors.specs.Guided.{Guided}
use Rattle.search_model.specs.declared.records.Record.{Record}
use Rattle.search_model.specs.declared.search.Search.{Search}
use Rattle.search_model.specs.Records.{at, f}
use Rattle.search_model.specs.Choice.{low_place, choice}
use Rattle.search_model.specs.Expansion.{expanded, counted}
use Rattle.search_model.specs.Advance.{Barren, Settled, More, Outcome, expansions, stop, after, going}
use Rattle.search_model.specs.Read.{Trail, extended}
use Rattle.search_model.proofs.Turns.{going_barren, going_settled, going_more, going_expands}

-- After k expansions what is left, o, ends as the whole advance does and has k expansions fewer.
pub record Left (k : ℕ) (o whole : Outcome) : Type 0 where
  pub answer : whole.answer ≡ o.answer
  pub mark : whole.mark ≡ o.mark
  pub search_after : whole.search_after ≡ o.search_after
  pub records : whole.records ≡ o.records
  pub count : expansions whole ≡ k + expansions o

-- Before the first turn.
pub left_whole : (o : Outcome) → Left 0 o o
left_whole o = record { answer = refl; mark = refl; search_after = refl; records = refl; count = omega arith }

left_after : (k n : ℕ) (o whole : Outcome) → Left k (after n o) whole → Left (k + 1) o whole
left_after k n o whole h =
    record { answer = h.answer; mark = h.mark; search_after = h.search_after; records = h.records; count = omega (arith, h.count) }

-- A turn with k expansions of the budget made.
module _ (g : Guided) (budget k : ℕ) (s : Search) (t : List Record) (whole : Outcome) (h : Left k (going g (budget - k) s t) whole) where
  pub left_barren : low_place t ≡ None → Left k (stop Barren s t) whole
  left_barren e = subst (λ o. Left k o whole) (going_barren g s t (budget - k) e) h

  module _ (l n : ℕ) (low : low_place t ≡ Some l) (chosen : choice s (f (at t l)) t ≡ Some n) where
    pub left_settled : g.floor.goal n ≡ true → Left k (stop (Settled n) s t) whole
    left_settled e = subst (λ o. Left k o whole) (going_settled g s t l n low chosen (budget - k) e) h

    pub left_more : g.floor.goal n ≡ false → budget ≤ k → Left k (stop More s t) whole
    left_more e spent =
        let none : budget - k ≡ 0 = omega arith in
        subst (λ o. Left k o whole) (ap (λ b. going g b s t) none ∙ going_more g s t l n low chosen e) h

    pub left_expands : g.floor.goal n ≡ false → k < budget → Left (k + 1) (going g (budget - (k + 1)) (counted s) (expanded g n t)) whole
    left_expands e room =
        let one : budget - k ≡ suc (budget - (k + 1)) = omega arith in
        left_after
        k
        n
        (going g (budget - (k + 1)) (counted s) (expanded g n t))
        whole
        (subst (λ o. Left k o whole) (ap (λ b. going g b s t) one ∙ going_expands g s t l n low chosen (budget - (k + 1)) e) h)

-- A trail with places at its end and their cost, as a read has it that follows parents from the goal.
abbrev pub prolonged : List ℕ → ℕ → Option Trail → Option Trail
prolonged places cost None = None
prolonged places cost (Some w) = Some (record { places = w.places ++ places; cost = w.cost + cost })

pub prolonged_none : (x : Option Trail) → prolonged [] 0 x ≡ x
prolonged_none None = refl
prolonged_none (Some w) = rw (append-nil, add-zero)

pub prolonged_extended : (place d cost : ℕ) (places : List ℕ) (x : Option Trail) → prolonged places cost (extended d place x) ≡ prolonged (place ∷ places) (d + cost) x
prolonged_extended place d cost places None = refl
prolonged_extended place d cost places (Some w) = rw (append_assoc, add_assoc)
