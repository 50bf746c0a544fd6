-- A layout is a run of 16-byte records; numbers are unsigned, lowest byte first.
use Rattle.std.specs.Prelude.{ℕ, ◌+◌, ◌*◌, ◌/◌, cond, List, length, nat_lt, slice_index}
use Rattle.layout.specs.declared.record.RawRecord.{RawRecord}

-- The number in two bytes, from byte i on.
abbrev pub half_at : List ℕ → ℕ → ℕ
half_at bs i = slice_index bs i + slice_index bs (i + 1) * 256

-- The number in four bytes, from byte i on.
abbrev pub word_at : List ℕ → ℕ → ℕ
word_at bs i = slice_index bs i + slice_index bs (i + 1) * 256 + slice_index bs (i + 2) * 65536 + slice_index bs (i + 3) * 16777216

-- The 16 bytes from byte i on, by their parts.
abbrev pub part_at : List ℕ → ℕ → RawRecord
part_at bs i = record {
  tag = slice_index bs i;
  flag = slice_index bs (i + 1);
  half = half_at bs (i + 2);
  word1 = word_at bs (i + 4);
  word2 = word_at bs (i + 8);
  word3 = word_at bs (i + 12);
}

-- How many whole records there are.
abbrev pub whole : List ℕ → ℕ
whole bs = length bs / 16

abbrev pub zeros : RawRecord
zeros = record { tag = 0; flag = 0; half = 0; word1 = 0; word2 = 0; word3 = 0 }

-- The record of number r; past the last whole record, zeros.
unfoldable pub record_at : List ℕ → ℕ → RawRecord
record_at bs r = cond (nat_lt r (whole bs)) (part_at bs (16 * r)) zeros
