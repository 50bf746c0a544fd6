-- Records as bytes.
use Rattle.std.specs.Prelude.{ℕ, ◌/◌, ◌%◌, List, [], ◌∷◌, ◌++◌}
use Rattle.layout.specs.declared.record.RawRecord.{RawRecord}

-- A number in two bytes and in four, lowest byte first.
abbrev half : ℕ → List ℕ
half n = n % 256 ∷ n / 256 % 256 ∷ []

abbrev word : ℕ → List ℕ
word n = n % 256 ∷ n / 256 % 256 ∷ n / 65536 % 256 ∷ n / 16777216 % 256 ∷ []

-- A record by its parts.
abbrev pub record_bytes : RawRecord → List ℕ
record_bytes r = r.tag ∷ r.flag ∷ half r.half ++ (word r.word1 ++ (word r.word2 ++ word r.word3))

abbrev pub place_bytes : (goal first low hope steps : ℕ) → List ℕ
place_bytes goal first low hope steps = 83 ∷ goal ∷ half first ++ (word low ++ (word hope ++ word steps))

abbrev pub leg_bytes : (target cost : ℕ) → List ℕ
leg_bytes target cost = 65 ∷ 0 ∷ half cost ++ (word target ++ (0 ∷ 0 ∷ 0 ∷ 0 ∷ 0 ∷ 0 ∷ 0 ∷ 0 ∷ []))
