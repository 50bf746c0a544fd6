-- The questions put to a layout, each as a test that a record fails.
use Rattle.std.specs.Prelude.{ℕ, zero, suc, ◌+◌, ◌-◌, ◌/◌, ◌%◌, Bool, false, cond, not, ◌&&◌, ◌||◌, List, length, Some, None, Option, ◌==◌, nat_le, nat_lt}
use Rattle.floors.specs.Sound.{limit}
use Rattle.layout.specs.declared.counts.Counts.{Counts}
use Rattle.layout.specs.Layout.{place_tag, leg_tag}
use Rattle.layout.specs.Records.{record_at}

-- 1: the length is a multiple of 16; it names the number of whole records.
abbrev pub broken_length : List ℕ → Option ℕ
broken_length bs = cond (length bs % 16 == 0) None (Some (length bs / 16))

-- 2: there is a first record, and it is a place record.
abbrev pub no_first_place : List ℕ → Option ℕ
no_first_place bs = cond ((record_at bs 0).tag == place_tag) None (Some 0)

-- A leg record stands before record r.
abbrev pub leg_before : List ℕ → ℕ → Bool
leg_before bs zero = false
leg_before bs (suc r) = leg_before bs r || (record_at bs r).tag == leg_tag

-- 3: every record is a place record or a leg record, and no place record stands behind a leg record.
abbrev pub wrong_tag : List ℕ → ℕ → Bool
wrong_tag bs r =
    not ((record_at bs r).tag == place_tag || (record_at bs r).tag == leg_tag)
    || ((record_at bs r).tag == place_tag && leg_before bs r)

-- The same asked the short way, where the first `first` records are all the place records: behind them every record is a leg record.
abbrev pub no_leg_behind : List ℕ → ℕ → ℕ → Bool
no_leg_behind bs first r = nat_le first r && not ((record_at bs r).tag == leg_tag)

-- 4: at most 4,096 place records and 65,535 leg records; it names the first too many, of the places before the legs.
abbrev pub too_many : Counts → Option ℕ
too_many n = cond (nat_lt 4096 n.places) (Some 4096) (cond (nat_lt 65535 n.legs) (Some (n.places + 65535)) None)

-- 5: byte 1 of a place record is 0 or 1; byte 1 of a leg record and its bytes 8 to 15 are 0.
abbrev pub wrong_fixed : List ℕ → Counts → ℕ → Bool
wrong_fixed bs n r = cond (nat_lt r n.places)
    (nat_lt 1 (record_at bs r).flag)
    (not ((record_at bs r).flag == 0 && ((record_at bs r).word2 == 0 && (record_at bs r).word3 == 0)))

-- 6: first legs begin at 0, never fall, and never pass the number of legs.
abbrev pub wrong_first : List ℕ → Counts → ℕ → Bool
wrong_first bs n zero = not ((record_at bs 0).half == 0)
wrong_first bs n (suc r) = nat_lt (record_at bs (suc r)).half (record_at bs r).half || nat_lt n.legs (record_at bs (suc r)).half

-- 7: every leg leads to a place.
abbrev pub wrong_target : List ℕ → Counts → ℕ → Bool
wrong_target bs n r = nat_le n.places r && nat_le n.size (record_at bs r).word1

-- 8: the low, hope and step estimates are within the limit.
abbrev pub wrong_estimate : List ℕ → ℕ → Bool
wrong_estimate bs r = nat_lt limit (record_at bs r).word1 || (nat_lt limit (record_at bs r).word2 || nat_lt limit (record_at bs r).word3)

-- 9: the low estimate of a goal is 0.
abbrev pub high_goal : List ℕ → ℕ → Bool
high_goal bs r = (record_at bs r).flag == 1 && not ((record_at bs r).word1 == 0)

-- The place among the first u whose list leg j stands in: the last one whose first leg is not behind j.
abbrev pub owner : List ℕ → ℕ → ℕ → ℕ
owner bs j zero = 0
owner bs j (suc u) = cond (nat_le (record_at bs u).half j) u (owner bs j u)

-- 9: along no leg does the low estimate fall by more than the leg's cost.
abbrev pub steep : List ℕ → Counts → ℕ → Bool
steep bs n r = nat_le n.places r
    && nat_lt ((record_at bs r).half + (record_at bs (record_at bs r).word1).word1) (record_at bs (owner bs (r - n.places) n.places)).word1
