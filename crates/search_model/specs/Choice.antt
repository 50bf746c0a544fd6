-- Which open place is expanded next.
use Rattle.std.specs.Prelude.{ℕ, zero, suc, ◌*◌, Bool, true, false, ◌&&◌, ◌||◌, List, length, Some, None, Option, ◌==◌, nat_le, nat_lt}
use Rattle.search_model.specs.declared.records.Record.{Record}
use Rattle.search_model.specs.declared.search.Search.{Search}
use Rattle.search_model.specs.Records.{at, is_open, f, f_hat}

-- The later place if it passes the test and comes before the best so far, otherwise the best so far.
abbrev pub better : (ℕ → Bool) → (ℕ → ℕ → Bool) → ℕ → Option ℕ → Option ℕ
better test before q None = elim (test q) [ true ↦ Some q | false ↦ None ]
better test before q (Some p) = elim (test q && before q p) [ true ↦ Some q | false ↦ Some p ]

-- Of the places below n that pass the test, the first in the order; the lower number wins ties.
abbrev pub least : (ℕ → Bool) → (ℕ → ℕ → Bool) → ℕ → Option ℕ
least test before zero = None
least test before (suc n) = better test before n (least test before n)

-- Places in the order of a key of their records.
abbrev pub by_key : (Record → ℕ) → List Record → ℕ → ℕ → Bool
by_key key records p q = nat_lt (key (at records p)) (key (at records q))

-- Low: the open place with the least f.
abbrev pub low_place : List Record → Option ℕ
low_place records = least (λ p. is_open (at records p)) (by_key f records) (length records)

-- Hope: the open place with the least f̂.
abbrev pub hope_place : List Record → Option ℕ
hope_place records = least (λ p. is_open (at records p)) (by_key f_hat records) (length records)

-- Whether b × f̂ of a record is at most a × the mark.
abbrev pub within : Search → ℕ → Record → Bool
within s mark r = nat_le (s.bound.b * f_hat r) (s.bound.a * mark)

-- The near set for the least f̂: every open place with b × f̂ at most a × that.
abbrev pub is_near : Search → ℕ → Record → Bool
is_near s least_hope r = is_open r && within s least_hope r

-- What near places are ordered by first: the kept step estimate.
abbrev pub rank : Search → Record → ℕ
rank s r = r.steps

-- Near places in order: by rank, then by f̂.
abbrev pub nearer : Search → Record → Record → Bool
nearer s r q = nat_lt (rank s r) (rank s q) || (rank s r == rank s q && nat_lt (f_hat r) (f_hat q))

-- Near: the first of the near set.
abbrev pub near_place : Search → List Record → Option ℕ
near_place s records =
    elim (hope_place records) [
      | None ↦ None
      | Some h ↦ least (λ p. is_near s (f_hat (at records h)) (at records p)) (λ p q. nearer s (at records p) (at records q)) (length records)
    ]

-- The place if there is one and b × f̂ of it is at most a × the mark, otherwise the other.
abbrev pub if_within : Search → ℕ → List Record → Option ℕ → Option ℕ → Option ℕ
if_within s mark records None other = other
if_within s mark records (Some p) other = elim (within s mark (at records p)) [ true ↦ Some p | false ↦ other ]

-- Near if it is within the mark, otherwise hope if it is, otherwise low.
abbrev pub choice : Search → ℕ → List Record → Option ℕ
choice s mark records =
    if_within s mark records (near_place s records) (if_within s mark records (hope_place records) (low_place records))
