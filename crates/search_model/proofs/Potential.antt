-- A place that is given a label never raises the potential, and a place that is closed lowers it by one.
use Rattle.std.proofs.Common.{◌≡◌, ℕ, zero, suc, ◌+◌, ◌*◌, ◌<◌, ◌≤◌, ◌⊎◌, List, length, set, refl, ◌∙◌, subst, ⊎_elim, le_refl, arith}
use Rattle.std.proofs.ByRecursion.{All-from_get_or, sum_by_le}
use Rattle.std.proofs.lemmas.Bool.{cases_eq}
use Rattle.floors.specs.declared.leg.Leg.{Leg}
use Rattle.floors.specs.Guided.{Guided, SoundGuided}
use Rattle.floors.specs.Sound.{limit}
use Rattle.search_model.specs.declared.records.Record.{Record}
use Rattle.search_model.specs.declared.search.Search.{Search}
use Rattle.search_model.specs.Records.{blank, at, Open}
use Rattle.search_model.specs.Expansion.{closed, expanded}
use Rattle.search_model.specs.Advance.{going}
use Rattle.search_model.specs.Fields.{SeenLimits, RecordLimits}
use Rattle.search_model.specs.Ending.{weight_of, weight, potential, Progress, Ending}
use Rattle.search_model.proofs.Table.{Changed}
use Rattle.search_model.proofs.Labels.{weight_unseen, weight_open, weight_closed, weight_seen, Given, given_record, closing}
use Rattle.search_model.proofs.Rules.{Kept, kept_by_labels, spread_rule, Ended, KeptByExpansion, going_rule}

-- A label given to a place, which an unseen place must outweigh.
pub given_potential :
    (u : ℕ) {t v : List Record} {q : ℕ} {r : Record}
    → Changed t q r v
    → r.mark ≡ 1
    → ((at t q).mark ≡ 0 → r.label < u)
    → ((at t q).mark ≡ 0) ⊎ (r.label < (at t q).label)
    → potential u v ≤ potential u t
given_potential u {t} {v} {q} {r} c opened low taken = ⊎_elim fresh (λ ne. ⊎_elim fresh (lower ne) taken) (cases_eq (at t q).mark 0)
  where
    falls : weight u r ≤ weight u (at t q) → potential u v ≤ potential u t
    falls h =
        let sums : potential u v + weight u (at t q) ≡ potential u t + weight u r = c.sums (weight u) in
        omega arith

    fresh : (at t q).mark ≡ 0 → potential u v ≤ potential u t
    fresh e =
        let new : weight u r ≡ r.label + 1 = weight_open u r opened in
        let old : weight u (at t q) ≡ u = weight_unseen u (at t q) e in
        let l : r.label < u = low e in
        falls (omega arith)

    lower : ((at t q).mark ≡ 0 → ⊥) → r.label < (at t q).label → potential u v ≤ potential u t
    lower ne l =
        let new : weight u r ≡ r.label + 1 = weight_open u r opened in
        let old : (at t q).label ≤ weight u (at t q) = weight_seen u (at t q) (omega arith) in
        falls (omega arith)

-- An open place that is closed.
pub closed_potential :
    (u : ℕ) {t v : List Record} {n : ℕ} → Changed t n (closed (at t n)) v → Open t n → potential u v + 1 ≡ potential u t
closed_potential u {t} {v} {n} c opened =
    let sums : potential u v + weight u (at t n) ≡ potential u t + weight u (closed (at t n)) = c.sums (weight u) in
    let old : weight u (at t n) ≡ (at t n).label + 1 = weight_open u (at t n) opened in
    let new : weight u (closed (at t n)) ≡ (at t n).label = weight_closed u (closed (at t n)) refl in
    omega arith

-- The two at a whole expansion, over any records.
module _ (g : Guided) (sound : SoundGuided g) where
  -- The records still stand one for each place, and their potential has fallen to x.
  record Fallen (x : ℕ) (t : List Record) : Type 0 where
    sized : length t ≡ g.floor.size
    below : potential (limit + 1) t ≤ x

  legs_fall : (n x : ℕ) → Kept g n (λ k t. Fallen x t)
  legs_fall n x = kept_by_labels g n (Fallen x) sound (λ t p. p.sized) taken
    where
      taken : (k : ℕ) (t : List Record) (l : Leg) → Given g t n k l → Fallen x t → Fallen x (set t l.target (given_record g t n k l))
      taken k t l h p =
          let lower : potential (limit + 1) (set t l.target (given_record g t n k l)) ≤ potential (limit + 1) t =
          given_potential (limit + 1) h.change refl (λ _. omega (arith, h.small)) h.reason in
          record { sized = h.change.sized ∙ p.sized; below = omega (arith, p.below) }

  -- After k expansions the potential has fallen by k from x.
  record FallenBy (x : ℕ) (k : ℕ) (s : Search) (t : List Record) : Type 0 where
    sized : length t ≡ g.floor.size
    below : potential (limit + 1) t + k ≤ x

  expansion_falls : (x : ℕ) → KeptByExpansion g (FallenBy x)
  expansion_falls x k s t n h p =
      let c : Changed t n (closed (at t n)) (set t n (closed (at t n))) = closing t n h.opened in
      let one : potential (limit + 1) (set t n (closed (at t n))) + 1 ≡ potential (limit + 1) t = closed_potential (limit + 1) c h.opened in
      let all : Fallen (potential (limit + 1) (set t n (closed (at t n)))) (expanded g n t) =
      spread_rule
      g
      n
      (λ k t'. Fallen (potential (limit + 1) (set t n (closed (at t n)))) t')
      (legs_fall n (potential (limit + 1) (set t n (closed (at t n)))))
      (set t n (closed (at t n)))
      (record { sized = c.sized ∙ p.sized; below = le_refl (potential (limit + 1) (set t n (closed (at t n)))) })
      (g.floor.count n) in
      record { sized = all.sized; below = omega (arith, all.below, p.below) }

-- The potential is at most what it would be if all places were unseen.
pub potential_below : (u : ℕ) (t : List Record) → ((p : ℕ) → weight u (at t p) ≤ u) → potential u t ≤ length t * u
potential_below u t h = sum_by_le (weight u) u t (All-from_get_or (λ r. weight u r ≤ u) t blank (λ i l. h i))

weight_below : (r : Record) → RecordLimits r → weight (limit + 1) r ≤ limit + 1
weight_below r h = by r.mark h.seen
  where
    by : (m : ℕ) → (1 ≤ m → SeenLimits r) → weight_of (limit + 1) m r.label ≤ limit + 1
    by zero s = le_refl (limit + 1)
    by (suc zero) s = omega (arith, (s (omega arith)).label)
    by (suc (suc m)) s = omega (arith, (s (omega arith)).label)

progress : (g : Guided) (budget : ℕ) (s : Search) (t : List Record) → SoundGuided g → length t ≡ g.floor.size → Progress g budget s t
progress g budget s t sound sized =
    let e : Ended g (FallenBy g sound (potential (limit + 1) t)) 0 budget (going g budget s t) =
    going_rule
    g
    (FallenBy g sound (potential (limit + 1) t))
    (expansion_falls g sound (potential (limit + 1) t))
    budget
    0
    s
    t
    (record { sized = sized; below = omega arith }) in
    record { falls = omega (arith, e.holds.below); spent = e.spent; affordable = e.affordable }

pub ending : Ending
ending =
    record {
      progress = progress;
      ends =
          λ g budget s t sound proper above more.
          let h : Progress g budget s t = progress g budget s t sound proper.sized in
          let all : potential (limit + 1) t ≤ g.floor.size * (limit + 1) =
          subst
          (λ n. potential (limit + 1) t ≤ n * (limit + 1))
          proper.sized
          (potential_below (limit + 1) t (λ p. weight_below (at t p) (proper.limits p))) in
          omega (arith, h.falls, h.spent more);
    }
