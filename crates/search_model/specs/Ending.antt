-- Why every search ends: each expansion lowers a potential.
use Rattle.std.specs.Prelude.{◌≡◌, ℕ, zero, suc, ◌+◌, ◌*◌, ◌<◌, ◌≤◌, List, length, sum_by}
use Rattle.floors.specs.Guided.{Guided, SoundGuided}
use Rattle.floors.specs.Sound.{limit}
use Rattle.search_model.specs.declared.records.Record.{Record}
use Rattle.search_model.specs.declared.search.Search.{Search}
use Rattle.search_model.specs.Advance.{More, expansions, going}
use Rattle.search_model.specs.Fields.{Proper}

-- By mark and label: an unseen place weighs more than any label it can be given, an open place its label and one,
-- a closed place its label.
abbrev pub weight_of : ℕ → ℕ → ℕ → ℕ
weight_of unseen zero label = unseen
weight_of unseen (suc zero) label = label + 1
weight_of unseen (suc (suc m)) label = label

-- The weight of a record.
abbrev pub weight : ℕ → Record → ℕ
weight unseen r = weight_of unseen r.mark r.label

-- The sum of all weights.
abbrev pub potential : ℕ → List Record → ℕ
potential unseen records = sum_by (weight unseen) records

-- Each expansion of an advance lowers the potential by one at least, and more comes only after the whole budget was expanded.
pub record Progress (g : Guided) (budget : ℕ) (s : Search) (t : List Record) : Type 0 where
  pub falls : potential (limit + 1) (going g budget s t).records + expansions (going g budget s t) ≤ potential (limit + 1) t
  pub spent : (going g budget s t).answer ≡ More → expansions (going g budget s t) ≡ budget
  pub affordable : expansions (going g budget s t) ≤ budget

-- So it is over any records, one for each place; and over proper records no advance answers more to a budget above S × (limit + 1).
pub record Ending : Type 0 where
  pub progress : (g : Guided) (budget : ℕ) (s : Search) (t : List Record) → SoundGuided g → length t ≡ g.floor.size → Progress g budget s t
  pub ends :
      (g : Guided) (budget : ℕ) (s : Search) (t : List Record)
      → SoundGuided g
      → Proper g t
      → g.floor.size * (limit + 1) < budget
      → (going g budget s t).answer ≡ More
      → ⊥
