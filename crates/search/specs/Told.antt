-- What the answers of the calls tell.
use Rattle.std.specs.Prelude.{◌≡◌, IfErr, Ok, Err, Result}
use Rattle.search_model.specs.declared.search.Search.{Search}
use Rattle.search_model.specs.Advance.{Answer, Barren, Settled, More}
use Rattle.search.specs.declared.fault.SearchFault.{SearchFault}
use Rattle.search.specs.declared.running.Running.{Running}
use Rattle.search.specs.declared.states.Advanced.{Advanced}
use Rattle.search.specs.declared.states.Advanced.TheVariants as advanced
use Rattle.search.specs.declared.states.Ended.{Ended}
use Rattle.search.specs.declared.states.Ended.TheVariants as ended
use Rattle.search.specs.declared.states.Refused.{Refused}
use Rattle.search.specs.declared.states.Report.{Report}
use Rattle.search.specs.Calls.{Told, told, refused}
use Rattle.search.specs.Reports.{AdvanceReport}
use Rattle.search.specs.Faults.{search_number}

-- A value, told as f has it, or the number of a fault.
abbrev pub tells : {A B : Type 0} → (A → B) → Result A SearchFault → Told B
tells f (Ok x) = told (f x)
tells f (Err fault) = refused (search_number fault)

-- The same of a call that hands the search back with the fault.
abbrev pub tells_or_back : {A B S : Type 0} → (A → B) → Result A (Refused S) → Told B
tells_or_back f (Ok x) = told (f x)
tells_or_back f (Err r) = refused (search_number r.fault)

-- A refusal hands this search back.
abbrev pub HandsBack : {A S : Type 0} → S → Result A (Refused S) → Type 0
HandsBack s r = IfErr r (λ x. x.back ≡ s)

-- The state of a running search.
abbrev pub state_of : Running → Search
state_of s = s.state

-- An answer with its report and the search afterwards.
abbrev pub reported : Answer → Report → Search → AdvanceReport
reported answer r s = record { answer = answer; spent = r.expansions; total = r.total; mark = r.low_mark; search_after = s }

-- What an answered advance tells: more, settled on a goal, or barren.
abbrev pub advanced_as : Advanced → AdvanceReport
advanced_as (advanced.More s r) = reported More r s.state
advanced_as (advanced.Settled s r) = reported (Settled s.goal) r s.state
advanced_as (advanced.Barren s r) = reported Barren r s.state

-- What an advance to the end tells.
abbrev pub ended_as : Ended → AdvanceReport
ended_as (ended.Settled s r) = reported (Settled s.goal) r s.state
ended_as (ended.Barren s r) = reported Barren r s.state
