use Rattle.std.proofs.Common.{◌∙◌}
use Rattle.roster.specs.Check.{expected_in}
use Rattle.roster.proofs.Checking.{slots_answered, homes_answered}
use Rattle.roster.proofs.Wishes.{expected_past}
use Rattle.roster.proofs.check.check.Goals as goal
use Rattle.roster.proofs.check.check.Goals.{then-are_slots_right, else-are_slots_right}

pub returns : goal.returns
returns g c =
    let xs = c.args.slots.now in
    let wanted = g.M.Expect.wanted c.args.rule.now in
    elim c.if-are_slots_right.branch [
      | then-are_slots_right w ↦
          let a = homes_answered g.R.Entry.Ranked.at_most g.R.Homed.home_of g.R.Slot.entry_of g.R.Homed.note_of g.met.R.Entry.Ranked.ordered (expected_in wanted xs) xs (expected_past wanted xs) _ c.count-n.ensures.count _ _ _ w.if-are_slots_right.ensures w.are_homes_right.ensures w.then_some-is c.then_some.ensures in
          record { answer = a.0; holds = a.1 }
      | else-are_slots_right w ↦
          let a = slots_answered g.R.Entry.Ranked.at_most g.R.Homed.home_of g.R.Slot.entry_of g.R.Homed.note_of g.met.R.Entry.Ranked.ordered (expected_in wanted xs) xs (expected_past wanted xs) _ c.count-n.ensures.count _ _ w.if-are_slots_right.ensures (w.then_some-is ∙ w.if-are_slots_right.false) c.then_some.ensures in
          record { answer = a.0; holds = a.1 }
    ]
