use Rattle.frontier.proofs.Firsts.{low_first, low_mark_first, low_mark_none, still_ready}
use Rattle.frontier.proofs.frontier.Frontier.choose.Goals as goal

pub returns-in_err-low : goal.returns-in_err-low
returns-in_err-low c =
    rw c.from_residual.ensures (record {
      still = still_ready c.requires.prepared;
      picks = low_mark_none c.requires.prepared c.head.result c.head.ensures c.in_err-low.was;
    })

pub choose_by-place-requires : goal.choose_by-place-requires
choose_by-place-requires c = record { choosing = c.requires; is_low = low_first c.requires.prepared c.head.result c.head.ensures c.in_ok-low.low c.in_ok-low.was }

pub returns : goal.returns
returns c = record {
  still = c.choose_by-place.ensures.still;
  picks = (low_mark_first c.requires.prepared c.head.result c.head.ensures c.in_ok-low.low c.in_ok-low.was, c.choose_by-place.ensures.is_choice);
}
