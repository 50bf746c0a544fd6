-- The premises of the guarantee are met: a sound floor, an accepted begin on it, and a run of calls from there.
use Rattle.std.specs.Prelude.{ℕ, List, [], ◌∷◌, Some}
use Rattle.floors.specs.Guided.{SoundGuided}
use Rattle.search_model.specs.declared.bound.Bound.{Bound}
use Rattle.search_model.specs.declared.search.Search.{Search}
use Rattle.search_model.specs.Advance.{Settled}
use Rattle.search.specs.Calls.{told, refused, Begun}
use Rattle.search.specs.Reports.{AdvanceReport}
use Rattle.search.specs.Runs.{State, running}
use Rattle.search.specs.CallRuns.{CallEvent, advanced, rebound, read, CallRun, CallsGuaranteed}
use Rattle.cases.specs.Floors.{six}
use Rattle.cases.specs.Searches.{bound_of}
use Rattle.cases.specs.Tables.{blank_table, begun_table, settled_table}

-- A search of the six places from place 0, under a bound and with a total.
abbrev pub search_with : Bound → ℕ → Search
search_with bound total = record { start = 0; bound = bound; size = 6; total = total }

-- The search as it begins, once it is settled, and after its rebound.
abbrev pub begun_search : Search
begun_search = search_with (bound_of 3 2) 0

abbrev pub settled_search : Search
settled_search = search_with (bound_of 3 2) 3

abbrev pub rebound_search : Search
rebound_search = search_with (bound_of 1 1) 3

-- What the advance tells: settled on 5 after 3 expansions, 3 in total, and the low mark is 6.
abbrev pub settled_on_five : AdvanceReport
settled_on_five = record { answer = Settled 5; spent = 3; total = 3; mark = Some 6; search_after = settled_search }

-- A list of six numbers, the same with the route read into it, and a list of five.
abbrev pub six_numbers : List ℕ
six_numbers = 9 ∷ 9 ∷ 9 ∷ 9 ∷ 9 ∷ 9 ∷ []

abbrev pub six_written : List ℕ
six_written = 0 ∷ 2 ∷ 4 ∷ 5 ∷ 9 ∷ 9 ∷ []

abbrev pub five_numbers : List ℕ
five_numbers = 9 ∷ 9 ∷ 9 ∷ 9 ∷ 9 ∷ []

-- An advance settles; a read gives four places and the cost 6; a read into five numbers is refused 38; a rebound to 2/3 is
-- refused 32, and one to 1/1 accepted; an advance by 65,536 is refused 35.
abbrev pub events : List CallEvent
events =
    advanced 9 (told settled_on_five)
    ∷ read six_numbers (told (4, 6)) six_written
    ∷ read five_numbers (refused 38) five_numbers
    ∷ rebound (bound_of 2 3) (refused 32)
    ∷ rebound (bound_of 1 1) (told rebound_search)
    ∷ advanced 65536 (refused 35)
    ∷ []

-- Where the calls begin and end. The near set of 1/1 is place 5 alone, which stands in slot 0 of the near queue already, so the
-- table after the rebound is the same.
abbrev pub at_begin : State
at_begin = running begun_search begun_table

abbrev pub at_end : State
at_end = running rebound_search settled_table

-- The six places are sound; a begin from place 0 at 3/2 over blank nodes is accepted; the calls are a run from there; and what
-- the guarantee then says of it.
pub record PremisesMet : Type 0 where
  pub sound : SoundGuided six
  pub begun : Begun six 0 (bound_of 3 2) blank_table (told begun_search) begun_table
  pub run : CallRun six at_begin events at_end
  pub guaranteed : CallsGuaranteed six.floor 0 (bound_of 3 2) 0 events
