-- The limits of what records hold.
use Rattle.std.specs.Prelude.{◌≡◌, ℕ, ◌<◌, ◌≤◌, List, length}
use Rattle.floors.specs.Guided.{Guided, SoundGuided}
use Rattle.floors.specs.Sound.{limit}
use Rattle.search_model.specs.declared.records.Record.{Record}
use Rattle.search_model.specs.declared.search.Search.{Search}
use Rattle.search_model.specs.Records.{at}
use Rattle.search_model.specs.Advance.{going}
use Rattle.search_model.specs.Begin.{first_records}

-- Of a seen place: label and estimates are within the limit, and the kept hope is at least low.
pub record SeenLimits (r : Record) : Type 0 where
  pub label : r.label ≤ limit
  pub low : r.low ≤ r.hope
  pub hope : r.hope ≤ limit
  pub steps : r.steps ≤ limit

-- Of any place: the mark is 0, 1 or 2.
pub record RecordLimits (r : Record) : Type 0 where
  pub mark : r.mark ≤ 2
  pub seen : 1 ≤ r.mark → SeenLimits r

-- One record for each place of the floor, each within its limits.
pub record Proper (g : Guided) (records : List Record) : Type 0 where
  pub sized : length records ≡ g.floor.size
  pub limits : (p : ℕ) → RecordLimits (at records p)

-- A begin makes records proper, and an advance over any proper records leaves them so.
pub record LimitsKept : Type 0 where
  pub begins : (g : Guided) (start : ℕ) → SoundGuided g → start < g.floor.size → Proper g (first_records g start)
  pub advances :
      (g : Guided) (budget : ℕ) (s : Search) (t : List Record)
      → SoundGuided g
      → Proper g t
      → Proper g (going g budget s t).records
