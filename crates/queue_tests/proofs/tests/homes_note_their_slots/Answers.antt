use Rattle.std.proofs.Common.{◌≡◌, ℕ, ◌≤◌, List, [], ◌∷◌, length, get_or, sym, ◌∙◌, subst, arith}
use Rattle.queue.proofs.Presence.{present_home, present_added, absent_after_added, present_after_replaced}
use Rattle.queue.specs.Entries.{entries, Added}
use Rattle.queue.specs.Notes.{NotesRight, Present}
use Rattle.queue.specs.declared.entry.CostEntry.{CostEntry}
use Rattle.queue_tests.specs.Lenses.{place_of, low_of, low_slot_of}
use Rattle.queue_tests.specs.declared.Node.{Node}
use Rattle.queue_tests.proofs.tests.homes_note_their_slots.Goals as goal

pub insert-requires-2-clause-absent : goal.insert-requires-2-clause-absent
insert-requires-2-clause-absent g c =
    absent_after_added place_of low_of low_slot_of 0 1 (c.node.result ∷ c.node-2.result ∷ c.node-3.result ∷ c.node-4.result ∷ []) c.insert.new.slots
    (omega arith) (omega arith) c.cost.result c.insert.ensures.queue.change c.cost-2.result.place (omega arith) (λ d i l e. absurd (omega arith))

-- an entry of place 3 was the second to be inserted
third_present : (xs ys : List Node) (e : CostEntry) → 1 ≤ length xs → 2 ≤ length ys → Added e (entries low_of 1 xs) (entries low_of 2 ys) → NotesRight place_of low_of low_slot_of 2 ys → e.place ≡ 3 → Present place_of low_of low_slot_of 2 ys 3
third_present xs ys e l l' A N three =
    subst (λ (h : ℕ). Present place_of low_of low_slot_of 2 ys h) three (present_added place_of low_of low_slot_of 1 2 xs ys l l' e A N)

pub replace-requires-clause-present : goal.replace-requires-clause-present
replace-requires-clause-present g c = third_present c.insert.new.slots c.insert-2.new.slots c.cost-2.result (omega arith) (omega arith) c.insert-2.ensures.queue.change c.insert-2.ensures.notes c.cost-2.ensures

pub remove-requires-clause-present : goal.remove-requires-clause-present
remove-requires-clause-present g c =
    let P = third_present c.insert.new.slots c.insert-2.new.slots c.cost-2.result (omega arith) (omega arith) c.insert-2.ensures.queue.change c.insert-2.ensures.notes c.cost-2.ensures in
    let r = c.node.result in
    let d = c.cost.result in
    present_after_replaced place_of low_of low_slot_of 2 2 c.insert-2.new.slots c.replace.new.slots (omega arith) (omega arith)
    (get_or (entries low_of 2 c.insert-2.new.slots) (low_slot_of (get_or c.insert-2.new.slots 3 r)) d) c.cost-3.result ((c.replace.ensures.queue r).change d)
    (present_home place_of low_of low_slot_of 2 c.insert-2.new.slots 3 P d r ∙ sym c.cost-3.ensures) 3 c.replace.ensures.notes P
