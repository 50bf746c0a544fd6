-- A table with one record changed, through `at`.
use Rattle.std.proofs.Common.{◌≡◌, ℕ, ◌+◌, ◌<◌, ◌≤◌, ◌⊎◌, List, length, set, replicate, sum_by, sym, ap, ◌∙◌, subst, inl, inr, ⊎_elim, arith, length-set, get_or-set_other, get_or-set_same}
use lib.ListN.{length-replicate, get_or-replicate}
use Rattle.std.proofs.lemmas.List.{get_or_past}
use Rattle.std.proofs.lemmas.List.Sums.{sum_by-set}
use Rattle.std.proofs.lemmas.Bool.{cases_lt, cases_eq}
use Rattle.floors.specs.Guided.{Guided}
use Rattle.search_model.specs.declared.records.Record.{Record}
use Rattle.search_model.specs.Records.{blank, at, Seen}
use Rattle.search_model.specs.Expansion.{labelled}
use Rattle.search_model.specs.Begin.{first_records}

-- u is the table t with r as the record of q.
pub record Changed (t : List Record) (q : ℕ) (r : Record) (u : List Record) : Type 0 where
  pub on : q < length t
  pub here : at u q ≡ r
  pub elsewhere : (p : ℕ) → (p ≡ q → ⊥) → at u p ≡ at t p
  pub sized : length u ≡ length t
  pub sums : (w : Record → ℕ) → sum_by w u + w (at t q) ≡ sum_by w t + w r

pub changed : (t : List Record) (q : ℕ) (r : Record) → q < length t → Changed t q r (set t q r)
changed t q r h =
    record {
      on = h;
      here = get_or-set_same t q r blank h;
      elsewhere = λ p ne. get_or-set_other t q p r blank ne;
      sized = length-set t q r;
      sums = λ w. sum_by-set w t q r blank h;
    }

-- What the record of a place in a changed table is.
pub changed_at : {t : List Record} {q : ℕ} {r : Record} {u : List Record} → Changed t q r u → (p : ℕ) → ((p ≡ q) × (at u p ≡ r)) ⊎ ((p ≡ q → ⊥) × (at u p ≡ at t p))
changed_at {q = q} {u = u} c p = ⊎_elim (λ e. inl (e, ap (at u) e ∙ c.here)) (λ ne. inr (ne, c.elsewhere p ne)) (cases_eq p q)

-- What holds of the new record and of the old record of p holds of p's record now.
pub changed_keeps :
    {t : List Record} {q : ℕ} {r : Record} {u : List Record}
    → Changed t q r u
    → (P : Record → Type 0)
    → P r
    → (p : ℕ)
    → P (at t p)
    → P (at u p)
changed_keeps c P new p old = ⊎_elim (λ x. subst P (sym x.1) new) (λ x. subst P (sym x.1) old) (changed_at c p)

-- A place that is seen is on the table.
pub seen_on : (t : List Record) (p : ℕ) → Seen t p → p < length t
seen_on t p h = ⊎_elim (λ l. l) (λ l. off (ap (λ (r : Record). r.mark) (get_or_past t p blank l))) (cases_lt p (length t))
  where
    off : (at t p).mark ≡ 0 → p < length t
    off e = omega arith

-- The records of a begin: blank, with the start's changed.
pub blank_at : (n p : ℕ) → at (replicate n blank) p ≡ blank
blank_at n p =
    ⊎_elim
    (λ l. get_or-replicate n p blank blank l)
    (λ l. get_or_past (replicate n blank) p blank (subst (λ x. x ≤ p) (sym (length-replicate n blank)) l))
    (cases_lt p n)

pub begun :
    (g : Guided) (start : ℕ)
    → start < g.floor.size
    → Changed (replicate g.floor.size blank) start (labelled g start 0 start 0) (first_records g start)
begun g start on =
    changed (replicate g.floor.size blank) start (labelled g start 0 start 0) (subst (λ x. start < x) (sym (length-replicate g.floor.size blank)) on)

-- What holds of the start's record and of a blank one holds of every record.
pub begun_keeps :
    (g : Guided) (start : ℕ)
    → start < g.floor.size
    → (P : Record → Type 0)
    → P (labelled g start 0 start 0)
    → P blank
    → (p : ℕ)
    → P (at (first_records g start) p)
begun_keeps g start on P first rest p = changed_keeps (begun g start on) P first p (subst P (sym (blank_at g.floor.size p)) rest)

pub begun_sized : (g : Guided) (start : ℕ) → start < g.floor.size → length (first_records g start) ≡ g.floor.size
begun_sized g start on = (begun g start on).sized ∙ length-replicate g.floor.size blank
