use Rattle.std.proofs.Common.{sym, ap, ◌∙◌}
use Rattle.floors.specs.Guided.{guided_sound}
use Rattle.search.specs.Reports.{AdvanceReport, end_budget_is}
use Rattle.search.proofs.Accepting.{turns_done}
use Rattle.search.proofs.Repeating.{to_the_end}
use Rattle.search.proofs.running.Running.try_to_end.Goals as goal

pub ended-requires : goal.ended-requires
ended-requires g c =
    let ends = to_the_end _ (guided_sound _ _ (g.F.Floor.sound c.args.floor.now) (g.F.GuidedFloor.limited c.args.floor.now))
    c.in_ok-queued.ensures.ordered c.in_ok-queued.ensures.sized (sym end_budget_is) c.turn_table-stopped.ensures in
    λ e. ends.0 (ap (λ (a : AdvanceReport). a.answer) (sym c.answer.ensures) ∙ e)

pub returns : goal.returns
returns g c =
    let ends = to_the_end _ (guided_sound _ _ (g.F.Floor.sound c.args.floor.now) (g.F.GuidedFloor.limited c.args.floor.now))
    c.in_ok-queued.ensures.ordered c.in_ok-queued.ensures.sized (sym end_budget_is) c.turn_table-stopped.ensures in
    record {
      done = turns_done (sym end_budget_is) c.in_ok-queued.ensures.answer c.turn_table-stopped.ensures (c.ended.ensures ∙ c.answer.ensures);
      same = ends.1;
    }
