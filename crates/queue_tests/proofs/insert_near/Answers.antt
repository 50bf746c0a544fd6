use Rattle.std.proofs.Common.{refl, ap}
use Rattle.queue.proofs.Parts.{part_kept, entries_kept, notes_right_kept}
use Rattle.queue.proofs.Rules.{rule_kept}
use Rattle.queue.specs.Keys.{cost_at_most}
use Rattle.queue_tests.specs.Lenses.{near_of, with_near, low_of, low_slot_of, place_of}
use Rattle.queue_tests.proofs.insert_near.Goals as goal

pub returns : goal.returns
returns c =
    let F = c.insert.ensures.frame in
    let same = part_kept low_of near_of with_near c.insert.result c.args.slots.now c.insert.new.slots F (λ r e. refl) in
    record {
      entries = λ m. entries_kept low_of m c.args.slots.now c.insert.new.slots same;
      rule = λ m. rule_kept cost_at_most low_of m c.args.slots.now c.insert.new.slots F.same_length same;
      notes = λ m. notes_right_kept low_of m c.args.slots.now c.insert.new.slots same place_of low_slot_of F.same_length
          (λ r a. ap low_slot_of (F.only_entry r a));
    }
