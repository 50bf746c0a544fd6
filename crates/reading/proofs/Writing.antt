-- The places of a trail are those that the parents lead through.
use Rattle.std.proofs.Common.{◌≡◌, ℕ, zero, suc, ◌+◌, ◌-◌, ◌<◌, ◌≤◌, List, [], ◌∷◌, ◌++◌, length, drop, set, Some, None, Option, sym, refl, ap, ◌∙◌, subst, append_assoc, arith, length-append}
use Rattle.std.proofs.lemmas.List.{drop-set}
use Rattle.floors.specs.Meaning.{Meaning}
use Rattle.search_model.specs.declared.records.Record.{Record}
use Rattle.search_model.specs.Records.{at}
use Rattle.search_model.specs.Read.{Trail, extended, follow}
use Rattle.reading.specs.declared.back.Back.{Back}
use Rattle.reading.specs.declared.back.Back.TheVariants.{Arrived, Parent, Lost}
use Rattle.reading.specs.Back.{step_back}
use Rattle.reading.specs.Trails.{measured, written}
use Rattle.reading.proofs.Measuring.{measured_pair}
use Rattle.reading.proofs.Steps.{trail_by, ByRecord, follow_back, back_by_record}

-- The last n places of a way to p, by parents alone.
abbrev pub lineage : List Record → ℕ → ℕ → List ℕ
lineage t zero p = []
lineage t (suc n) p = lineage t n (at t p).parent ++ (p ∷ [])

-- A trail of at most n places, which the parents lead through.
abbrev Lined : List Record → ℕ → ℕ → Option Trail → Type 0
Lined t n p None = Unit {0}
Lined t n p (Some w) = (length w.places ≤ n) × (w.places ≡ lineage t (length w.places) p)

lined_extended : (t : List Record) (n p d : ℕ) (x : Option Trail) → Lined t n (at t p).parent x → Lined t (suc n) p (extended d p x)
lined_extended t n p d None h = tt
lined_extended t n p d (Some w) h =
    let longer : suc (length w.places) ≡ length (w.places ++ (p ∷ [])) = omega (arith, length-append w.places (p ∷ [])) in (
      omega (arith, longer, h.0),
      ap (λ ps. ps ++ (p ∷ [])) h.1 ∙ ap (λ k. lineage t k p) longer,
    )

lined_measured :
    (t : List Record) (n p count cost : ℕ) (x : Option Trail)
    → Lined t n p x
    → measured x ≡ Some (count, cost)
    → (count ≤ n) × ((list : List ℕ) → lineage t count p ++ drop count list ≡ written x list)
lined_measured t n p count cost None h e = let z : ◌≡◌ {A = ℕ} 0 1 = cc in absurd (omega arith)
lined_measured t n p count cost (Some w) h e =
    let same : length w.places ≡ count = ap (λ (q : ℕ × ℕ). q.0) (measured_pair (Some w) (count, cost) e) in (
      omega (arith, same, h.0),
      λ list. ap (λ k. lineage t k p ++ drop k list) (sym same) ∙ ap (λ ps. ps ++ drop (length w.places) list) (sym h.1),
    )

module _ (m : Meaning) (start : ℕ) (t : List Record) where
  follow_lined : (n p : ℕ) → Lined t n p (follow m start t n p)
  follow_lined zero p = tt
  follow_lined (suc n) p =
      subst
      (Lined t (suc n) p)
      (sym (follow_back m start t p n))
      (by (step_back m start t p) (back_by_record m start t p) (follow_lined n (at t p).parent))
    where
      by : (b : Back) → ByRecord m t p b → Lined t n (at t p).parent (follow m start t n (at t p).parent) → Lined t (suc n) p (trail_by p b (follow m start t n))
      by Arrived r h = (omega arith, refl)
      by Lost r h = tt
      by (Parent s) r h =
          lined_extended t n p s.cost (follow m start t n s.parent)
          (subst (λ q. Lined t n (at t p).parent (follow m start t n q)) (sym r.0) h)

  -- No more places than are followed.
  pub measured_few : (n goal count cost : ℕ) → measured (follow m start t n goal) ≡ Some (count, cost) → count ≤ n
  measured_few n goal count cost e = (lined_measured t n goal count cost (follow m start t n goal) (follow_lined n goal) e).0

  -- What is written of a measured trail.
  pub lineage_written :
      (n goal count cost : ℕ) (list : List ℕ)
      → measured (follow m start t n goal) ≡ Some (count, cost)
      → lineage t count goal ++ drop count list ≡ written (follow m start t n goal) list
  lineage_written n goal count cost list e = (lined_measured t n goal count cost (follow m start t n goal) (follow_lined n goal) e).1 list

-- One place written before those that are written.
pub lineage_more :
    (t : List Record) (n p parent : ℕ) (list list' : List ℕ)
    → 0 < n
    → n ≤ length list
    → parent ≡ (at t p).parent
    → list' ≡ set list (n - 1) p
    → lineage t (n - 1) parent ++ drop (n - 1) list' ≡ lineage t n p ++ drop n list
lineage_more t n p parent list list' some room e f =
    let one : suc (n - 1) ≡ n = omega arith in
    let next : n - 1 + 1 ≡ suc (n - 1) = omega arith in
    ap (λ q. lineage t (n - 1) q ++ drop (n - 1) list') e
    ∙ ap (λ l. lineage t (n - 1) (at t p).parent ++ drop (n - 1) l) f
    ∙ ap (λ l. lineage t (n - 1) (at t p).parent ++ l) (drop-set list (n - 1) p (omega arith))
    ∙ ap (λ k. lineage t (n - 1) (at t p).parent ++ (p ∷ drop k list)) next
    ∙ sym (append_assoc (lineage t (n - 1) (at t p).parent) (p ∷ []) (drop (suc (n - 1)) list))
    ∙ ap (λ k. lineage t k p ++ drop k list) one
