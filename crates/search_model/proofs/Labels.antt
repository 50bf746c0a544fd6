-- What it takes to be given a label, and how labels weigh.
use Rattle.std.proofs.Common.{◌≡◌, ℕ, zero, suc, ◌+◌, ◌<◌, ◌≤◌, true, false, ◌||◌, ltb, leb, ◌⊎◌, List, length, set, Some, sym, ap, subst, inl, inr, ⊎_elim, arith}
use Rattle.std.proofs.lemmas.Bool.{leb-true, leb-false, ltb-true, ltb-false, eqb-true, eqb-false, and_parts, and_cases, or_cases, or_parts}
use Rattle.floors.specs.declared.leg.Leg.{Leg}
use Rattle.floors.specs.Guided.{Guided, SoundGuided}
use Rattle.floors.specs.Sound.{limit}
use Rattle.search_model.specs.declared.records.Record.{Record}
use Rattle.search_model.specs.Records.{at, is_unseen, Open}
use Rattle.search_model.specs.Expansion.{labelled, takes, closed}
use Rattle.search_model.specs.Ending.{weight, weight_of}
use Rattle.search_model.proofs.Table.{Changed, changed, seen_on}

-- A label that is taken is within the limit, and below the old one if there is one.
pub takes_true : (v : ℕ) (r : Record) → takes v r ≡ true → (v ≤ limit) × ((r.mark ≡ 0) ⊎ (v < r.label))
takes_true v r e =
    let both : (leb v limit ≡ true) × ((is_unseen r || ltb v r.label) ≡ true) = and_parts (leb v limit) (is_unseen r || ltb v r.label) e in (
      leb-true v limit both.0,
      ⊎_elim (λ x. inl (eqb-true r.mark 0 x)) (λ x. inr (ltb-true v r.label x)) (or_cases (is_unseen r) (ltb v r.label) both.1),
    )

-- A label that is not taken is above the limit, or the place has one that is as low.
pub takes_false : (v : ℕ) (r : Record) → takes v r ≡ false → (limit < v) ⊎ ((1 ≤ r.mark) × (r.label ≤ v))
takes_false v r e = ⊎_elim (λ x. inl (leb-false v limit x)) (λ x. inr (seen (or_parts (is_unseen r) (ltb v r.label) x))) (and_cases (leb v limit) (is_unseen r || ltb v r.label) e)
  where
    seen : (is_unseen r ≡ false) × (ltb v r.label ≡ false) → (1 ≤ r.mark) × (r.label ≤ v)
    seen x =
        let not_zero : r.mark ≡ 0 → ⊥ = eqb-false r.mark 0 x.0 in
        (omega arith, ltb-false v r.label x.1)

-- The weights of the three marks.
pub weight_unseen : (u : ℕ) (r : Record) → r.mark ≡ 0 → weight u r ≡ u
weight_unseen u r e = ap (λ m. weight_of u m r.label) e

pub weight_open : (u : ℕ) (r : Record) → r.mark ≡ 1 → weight u r ≡ r.label + 1
weight_open u r e = ap (λ m. weight_of u m r.label) e

pub weight_closed : (u : ℕ) (r : Record) → r.mark ≡ 2 → weight u r ≡ r.label
weight_closed u r e = ap (λ m. weight_of u m r.label) e

pub weight_seen : (u : ℕ) (r : Record) → 1 ≤ r.mark → r.label ≤ weight u r
weight_seen u r = by r.mark
  where
    by : (m : ℕ) → 1 ≤ m → r.label ≤ weight_of u m r.label
    by zero h = absurd (omega arith)
    by (suc zero) h = omega arith
    by (suc (suc m)) h = omega arith

-- The label that leg l of n offers.
abbrev pub offered_label : List Record → ℕ → Leg → ℕ
offered_label t n l = (at t n).label + l.cost

-- What a place becomes that is given the label of leg k of n.
abbrev pub given_record : Guided → List Record → ℕ → ℕ → Leg → Record
given_record g t n k l = labelled g l.target (offered_label t n l) n k

-- A label of leg k of n that is taken.
pub record Given (g : Guided) (t : List Record) (n k : ℕ) (l : Leg) : Type 0 where
  pub change : Changed t l.target (given_record g t n k l) (set t l.target (given_record g t n k l))
  pub small : offered_label t n l ≤ limit
  pub reason : ((at t l.target).mark ≡ 0) ⊎ (offered_label t n l < (at t l.target).label)

pub given_label :
    (g : Guided) (t : List Record) (n k : ℕ) (l : Leg)
    → SoundGuided g
    → length t ≡ g.floor.size
    → g.floor.leg n k ≡ Some l
    → takes (offered_label t n l) (at t l.target) ≡ true
    → Given g t n k l
given_label g t n k l sound sized e h =
    let taken : (offered_label t n l ≤ limit) × (((at t l.target).mark ≡ 0) ⊎ (offered_label t n l < (at t l.target).label)) =
    takes_true (offered_label t n l) (at t l.target) h in
    let on : l.target < length t = subst (λ x. l.target < x) (sym sized) (sound.floor.limits.targets n k l e) in
    record { change = changed t l.target (given_record g t n k l) on; small = taken.0; reason = taken.1 }

-- An open place that is closed.
pub closing : (t : List Record) (n : ℕ) → Open t n → Changed t n (closed (at t n)) (set t n (closed (at t n)))
closing t n o = changed t n (closed (at t n)) (seen_on t n (omega arith))
