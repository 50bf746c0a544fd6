-- The layer, the number and the record of a fault.
use Rattle.std.specs.Prelude.{ℕ}
use Rattle.layout.specs.Faults.{layout_verdict}
use Rattle.layout.specs.Verdict.{number_of, record_of}
use Rattle.search.specs.Faults.{search_number}
use Rattle.job.specs.declared.fault.Layer.{Layer}
use Rattle.job.specs.declared.fault.Layer.TheVariants as layer
use Rattle.job.specs.declared.fault.JobFault.{JobFault}
use Rattle.job.specs.declared.fault.JobFault.TheVariants.{Layout, Search}

-- A refusal: the layer, the number of the question, and the record that it names.
pub record Refusal : Type 0 where
  pub layer : Layer
  pub number : ℕ
  pub at_record : ℕ

-- A fault of the layout keeps its number and record; a fault of the search names record 0.
abbrev pub refusal_of : JobFault → Refusal
refusal_of (Layout fault) = record { layer = layer.Layout; number = number_of (layout_verdict fault); at_record = record_of (layout_verdict fault) }
refusal_of (Search fault) = record { layer = layer.Search; number = search_number fault; at_record = 0 }
