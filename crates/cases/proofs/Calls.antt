-- The begin and the run of the premises, call by call.
use Rattle.std.proofs.Common.{refl}
use Rattle.std.proofs.lemmas.Bool.{true≢false, false≢true}
use Rattle.layout.specs.Records.{record_at}
use Rattle.search.specs.Calls.{told, refused, Begun, ReboundDone, ReadDone}
use Rattle.search.specs.Reports.{AdvanceReported}
use Rattle.search.specs.CallRuns.{CallRun, done, by_advance, by_settled_rebound, by_read}
use Rattle.search.proofs.CallRuns.{guarantee}
use Rattle.cases.specs.Floors.{six}
use Rattle.cases.specs.Premises.{begun_search, settled_search, rebound_search, settled_on_five, six_numbers, six_written, five_numbers, events, at_begin, at_end, PremisesMet}
use Rattle.cases.specs.Searches.{bound_of}
use Rattle.cases.specs.Tables.{blank_table, begun_table, settled_table}
use Rattle.cases.proofs.Sample.{six_sound}

begins : Begun six 0 (bound_of 3 2) blank_table (told begun_search) begun_table
unfolding record_at
begins = record { said = refl; left = refl; same = λ e. absurd (false≢true e); ordered = λ e. refl }

settles : AdvanceReported six begun_search 9 begun_table (told settled_on_five) settled_table
unfolding record_at
settles = record { said = refl; left = refl; same = λ e. absurd (false≢true e); ordered = λ e. refl }

reads : ReadDone six.floor settled_search 5 settled_table six_numbers (told (4, 6)) six_written
unfolding record_at
reads = record { said = refl; left = refl }

too_short : ReadDone six.floor settled_search 5 settled_table five_numbers (refused 38) five_numbers
unfolding record_at
too_short = record { said = refl; left = refl }

bad_bound : ReboundDone settled_search (bound_of 2 3) settled_table (refused 32) settled_table
unfolding record_at
bad_bound = record { said = refl; left = refl; same = λ e. refl; ordered = λ e. absurd (true≢false e) }

rebounds : ReboundDone settled_search (bound_of 1 1) settled_table (told rebound_search) settled_table
unfolding record_at
rebounds = record { said = refl; left = refl; same = λ e. absurd (false≢true e); ordered = λ e. refl }

too_large : AdvanceReported six rebound_search 65536 settled_table (refused 35) settled_table
unfolding record_at
too_large = record { said = refl; left = refl; same = λ e. refl; ordered = λ e. absurd (true≢false e) }

calls : CallRun six at_begin events at_end
calls =
    by_advance 9 _ _ _ _ settles (
    by_read 5 _ _ _ _ _ reads (
    by_read 5 _ _ _ _ _ too_short (
    by_settled_rebound (bound_of 2 3) 5 _ _ _ _ bad_bound (
    by_settled_rebound (bound_of 1 1) 5 _ _ _ _ rebounds (
    by_advance 65536 _ _ _ _ too_large
    done)))))

-- A floor, a begin and a run that meet the premises, and the guarantee of that run.
pub premises : PremisesMet
premises = record {
  sound = six_sound;
  begun = begins;
  run = calls;
  guaranteed = guarantee six 0 (bound_of 3 2) blank_table (told begun_search) begun_table six_sound begins events at_end calls;
}
