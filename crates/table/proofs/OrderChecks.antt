-- The answers of the check of a table.
use Rattle.std.proofs.Common.{◌≡◌, ℕ, ◌≤◌, Bool, true, false, ◌&&◌, List, length, is_some, None, Option, sym, ap, ◌∙◌, subst, ⊎_elim}
use Rattle.std.proofs.lemmas.Bool.{both_ways, cases_Bool, cond-true, cond-false}
use Rattle.std.proofs.lemmas.List.Elements.{All-get_or, All-from_get_or}
use Rattle.std.proofs.lemmas.List.Sums.{AllPass-from_list_all, list_all-from_AllPass}
use Rattle.std.specs.List.{list_all}
use Rattle.queue.specs.declared.entry.CostEntry.{CostEntry}
use Rattle.roster.proofs.Checking.{every_each, each_every}
use Rattle.roster.specs.Check.{expected_in, roster_right}
use Rattle.roster.specs.Holds.{expected_count}
use Rattle.search_model.specs.declared.records.Record.{Record}
use Rattle.search_model.specs.declared.search.Search.{Search}
use Rattle.search_model.specs.Records.{f}
use Rattle.table.specs.declared.node.Node.{Node}
use Rattle.table.specs.declared.node.Seat.{Seat}
use Rattle.table.specs.declared.order.Queued.{Queued}
use Rattle.table.specs.Asked.{asked, right_at, records_right, open_right, open_count, counted, when, OpenHeld, DecidedOrder}
use Rattle.table.specs.Fresh.{blank_node}
use Rattle.table.specs.Order.{record_right, in_order}
use Rattle.table.specs.Table.{open_entry}
use Rattle.table.proofs.OrderAsked.{asked_same, counts_same, records_at}
use Rattle.table.proofs.OrderLaws.{open_holds, order_holds, order_tested}

-- every record is within its limits: by the nodes in turn, and by the places
pub all_records : (t : List Node) → list_all (λ (n : Node). record_right n.kept) t ≡ records_right t
all_records t = ⊎_elim
    (λ yes. list_all-from_AllPass right t (All-from_get_or Right t blank_node (λ i l. subst (λ (r : Record). record_right r ≡ true) (records_at t i) (every_each (right_at t) (length t) yes i l))) ∙ sym yes)
    (λ no. ⊎_elim
    (λ all. absurd (both_ways (records_right t) no
    (each_every (right_at t) (length t) (λ i l. subst (λ (r : Record). record_right r ≡ true) (sym (records_at t i)) (All-get_or Right t i blank_node l (AllPass-from_list_all right t all))))))
    (λ some. some ∙ sym no)
    (cases_Bool (list_all right t)))
    (cases_Bool (records_right t))
  where
    right : Node → Bool
    right n = record_right n.kept

    Right : Node → Type 0
    Right n = record_right n.kept ≡ true

module _ {A : Type 0} (a b : Bool) (x : A) where
  -- where the first test passes the second one decides
  pub when_second : (r : Option A) → a ≡ true → r ≡ when b x → r ≡ when (a && b) x
  when_second r p e = e ∙ ap (λ (c : Bool). when (c && b) x) (sym p)

  -- and where it fails there is no answer
  pub when_first_fails : a ≡ false → None ≡ when (a && b) x
  when_first_fails p = ap (λ (c : Bool). when (c && b) x) (sym p)

-- what the roster's check answers of the nodes that are askable, it answers of all
pub asked_answer : {E : Type 0} (le : E → E → Bool) (home : E → ℕ) (get : Node → E) (note : Node → ℕ) (wanted : Node → ℕ → Option E) (t : List Node) (r : Option ℕ)
    → length t ≤ 4294967296 → records_right t ≡ true
    → r ≡ when (roster_right le home get note (expected_in (asked wanted) t) t) (expected_count (expected_in (asked wanted) t) (length t))
    → r ≡ when (roster_right le home get note (expected_in wanted t) t) (expected_count (expected_in wanted t) (length t))
asked_answer {E} le home get note wanted t r few right =
    subst (λ (x : ℕ → Option E). r ≡ when (roster_right le home get note x t) (expected_count x (length t))) (asked_same wanted t right few)

-- an answer of the check of a queue of costs
pub record OpenAnswered (key : Record → ℕ) (seat_of : Node → Seat CostEntry) (t : List Node) (o : Option ℕ) : Type 0 where
  pub answer : o ≡ when (open_right key seat_of t) (open_count t)
  pub held : OpenHeld key seat_of t o

pub open_answered : (key : Record → ℕ) (seat_of : Node → Seat CostEntry) (t : List Node) (o : Option ℕ)
    → o ≡ when (open_right key seat_of t) (expected_count (expected_in (open_entry key) t) (length t))
    → OpenAnswered key seat_of t o
open_answered key seat_of t o is = record { answer = e; held = held }
  where
    e : o ≡ when (open_right key seat_of t) (open_count t)
    e = is ∙ ap (when (open_right key seat_of t)) (counts_same key f t (length t))

    held : OpenHeld key seat_of t o
    held = ⊎_elim
        (λ p. subst (OpenHeld key seat_of t) (sym (e ∙ cond-true _ _ _ p)) (open_holds key (λ n. (seat_of n).entry) (λ n. (seat_of n).note) t p))
        (λ p. subst (OpenHeld key seat_of t) (sym (e ∙ cond-false _ _ _ p)) tt)
        (cases_Bool (open_right key seat_of t))

-- an answer that is there as often as the test passes, and what it says
pub record Answered (s : Search) (t : List Node) (r : Option Queued) : Type 0 where
  pub answer : is_some r ≡ in_order s t
  pub holds : DecidedOrder s t r

pub answered : (s : Search) (t : List Node) (r : Option Queued) → r ≡ when (in_order s t) (counted s t) → Answered s t r
answered s t r e = ⊎_elim
    (λ p. subst (Answered s t) (sym (e ∙ cond-true _ _ _ p)) (record { answer = sym p; holds = order_holds s t p }))
    (λ p. subst (Answered s t) (sym (e ∙ cond-false _ _ _ p)) (record { answer = sym p; holds = λ o n x. both_ways (in_order s t) p (order_tested s t o n x) }))
    (cases_Bool (in_order s t))
