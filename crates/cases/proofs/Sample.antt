-- The floor of the sample layout is sound, as its layout is accepted.
use Rattle.std.proofs.Common.{◌≡◌, ℕ, zero, suc, ◌<◌, Bool, true, ◌&&◌, ltb, List, [], ◌∷◌, get_or, refl, lit<}
use Rattle.std.proofs.lemmas.Bool.{ltb-true, and_parts}
use Rattle.floors.specs.Guided.{SoundGuided, guided_sound}
use Rattle.layout.specs.Formed.{Formed, Lawful, layout_sound, layout_limited}
use Rattle.layout.specs.Layout.{counts}
use Rattle.layout.specs.Records.{record_at}
use Rattle.layout.specs.Sample.{six_places}
use Rattle.layout.proofs.Accepted.{all_fine}
use Rattle.cases.specs.Floors.{six, six_meaning, six_guesses}

-- Every number of a list is a byte.
abbrev all_bytes : List ℕ → Bool
all_bytes [] = true
all_bytes (b ∷ bs) = ltb b 256 && all_bytes bs

bytes_at : (bs : List ℕ) → all_bytes bs ≡ true → (i : ℕ) → get_or bs i 0 < 256
bytes_at [] e i = lit< tt
bytes_at (b ∷ bs) e zero = ltb-true b 256 (and_parts (ltb b 256) (all_bytes bs) e).0
bytes_at (b ∷ bs) e (suc i) = bytes_at bs (and_parts (ltb b 256) (all_bytes bs) e).1 i

sample_fine : Formed (six_places 3) (counts (six_places 3)) × Lawful (six_places 3) (counts (six_places 3))
unfolding record_at
sample_fine = all_fine (six_places 3) (counts (six_places 3)) (bytes_at (six_places 3) refl) refl refl refl refl

pub six_sound : SoundGuided six
six_sound =
    guided_sound six_meaning six_guesses
    (layout_sound (six_places 3) (counts (six_places 3)) sample_fine.0 sample_fine.1)
    (layout_limited (six_places 3) (counts (six_places 3)) sample_fine.1)
