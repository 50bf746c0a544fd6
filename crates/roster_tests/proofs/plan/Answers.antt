use Rattle.std.proofs.Common.{◌≡◌, ◌<◌, length, get_or, Some, sym, refl, ap, ◌∙◌, arith}
use Rattle.std.proofs.lemmas.Bool.{cond-false, ne_eqb}
use Rattle.queue.specs.Keys.{cost_at_most}
use Rattle.queue.specs.declared.entry.CostEntry.{CostEntry}
use Rattle.roster.proofs.Orders.{cost_ordered}
use Rattle.roster.proofs.Expectations.{put_same}
use Rattle.roster.proofs.Holding.{holds_absent, holds_inserted, holds_same}
use Rattle.roster.proofs.Keeping.{holds_beside, holds_set}
use Rattle.roster.proofs.Counting.{holds_room}
use Rattle.roster.proofs.Wishes.{expected_kept, expected_set}
use Rattle.roster_tests.specs.declared.Node.{Node}
use Rattle.roster_tests.specs.Parts.{planned, with_plan}
use Rattle.roster_tests.proofs.plan.Goals as goal

blank : Node
blank = record { plan = 0; low = record { cost = 0; place = 0 }; low_slot = 0; far = record { cost = 0; place = 0 }; far_slot = 0 }

pub insert-requires : goal.insert-requires
insert-requires c =
    let H = c.requires.holds in
    record {
      room = holds_room cost_at_most (λ e. e.place) (λ n. n.low) (λ n. n.low_slot) H c.args.home c.requires.home c.requires.free;
      limit = c.requires.limit;
      notes = H.notes;
      home = c.requires.home;
      absent = holds_absent cost_at_most (λ e. e.place) (λ n. n.low) (λ n. n.low_slot) H c.args.home c.requires.free;
    }

pub returns : goal.returns
unfolding blank
returns c =
    let H = c.requires.holds in
    let F = c.insert.ensures.frame in
    let xs = c.args.slots.now in
    let ys = c.insert.new.slots in
    let e : CostEntry = record { cost = c.args.cost; place = c.args.home } in
    let r' = with_plan (get_or ys c.args.home blank) c.args.cost in
    let within : c.args.home < length ys = omega (arith, F.same_length, c.requires.home) in
    let room = holds_room cost_at_most (λ e. e.place) (λ n. n.low) (λ n. n.low_slot) H c.args.home c.requires.home c.requires.free in
    let now_planned : planned r' c.args.home ≡ Some e = cond-false _ _ _ (ne_eqb c.args.cost 0 (λ z. omega (arith, c.requires.cost))) in
    let inserted = holds_inserted cost_at_most (λ e. e.place) (λ n. n.low) (λ n. n.low_slot) cost_ordered H e room c.requires.free c.insert.ensures.queue c.insert.ensures.notes F in
    record {
      low = holds_same cost_at_most (λ e. e.place) (λ n. n.low) (λ n. n.low_slot)
          (holds_set cost_at_most (λ e. e.place) (λ n. n.low) (λ n. n.low_slot) inserted c.args.home blank r' refl refl)
          (λ k. sym (expected_set planned ys c.args.home r' within k
          ∙ put_same _ _ c.args.home _ _ (expected_kept planned xs ys F.same_length (λ r h l. ap (λ n. planned n h) (F.only_queue r h))) now_planned k));
      far = λ y m K. holds_set cost_at_most (λ e. e.place) (λ n. n.far) (λ n. n.far_slot)
          (holds_beside cost_at_most (λ e. e.place) (λ n. n.far) (λ n. n.far_slot) K F (λ r e. refl) (λ r s. refl) (λ r e. refl) (λ r s. refl))
          c.args.home blank r' refl refl;
    }
