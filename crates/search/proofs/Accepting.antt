-- Accepted calls, from what their parts promise.
use Rattle.std.proofs.Common.{◌≡◌, ℕ, ◌≤◌, true, List, length, set, replicate, is_some, None, Option, sym, ap, ◌∙◌, subst}
use Rattle.std.proofs.lemmas.Bool.{true≢false, eqb-true}
use Rattle.floors.specs.Guided.{Guided}
use Rattle.floors.specs.Questions.{first_no, unless}
use Rattle.search.proofs.Asked.{all_yes}
use Rattle.search_model.specs.declared.bound.Bound.{Bound}
use Rattle.search_model.specs.declared.records.Record.{Record}
use Rattle.search_model.specs.declared.search.Search.{Search}
use Rattle.search_model.specs.Begin.{first_search, rebounded}
use Rattle.search_model.specs.Expansion.{labelled}
use Rattle.search_model.specs.Records.{blank}
use Rattle.table.specs.declared.node.Node.{Node}
use Rattle.table.specs.Order.{InOrder, in_order}
use Rattle.table.specs.Table.{records}
use Rattle.table.proofs.OrderLaws.{order_tested}
use Rattle.search.specs.Calls.{told, asked, CallDone, Begun, ReboundDone}
use Rattle.search.specs.Reports.{AdvanceReport, TurnsDone}
use Rattle.search.specs.Turns.{TurnsOrdered, stopped_as}
use Rattle.search.specs.declared.turns.Stopped.{Stopped}
use Rattle.search.specs.Questions.{begin_questions, rebound_questions}

-- no question is answered no
not_refused : {A : Type 0} (no : Option ℕ) → None ≡ no → is_some no ≡ true → A
not_refused first e h = absurd (true≢false (sym h ∙ ap is_some (sym e)))

pub rebound_done :
    (s : Search) (bound : Bound) (opened nears : ℕ) (t t' : List Node)
    → None ≡ first_no (rebound_questions s bound t)
    → records t' ≡ records t
    → InOrder (rebounded bound s) opened nears t'
    → ReboundDone s bound t (told (rebounded bound s)) t'
rebound_done s bound opened nears t t' none kept order = record {
  said = ap (λ no. asked no (rebounded bound s)) none;
  left = kept;
  same = not_refused (first_no (rebound_questions s bound t)) none;
  ordered = λ _. order_tested (rebounded bound s) t' opened nears order;
}

-- A call of which no question is answered no.
call_done :
    {A : Type 0} {first : Option ℕ} {value a : A} {after : List Record} {s : Search} {t t' : List Node}
    → None ≡ first
    → a ≡ value
    → records t' ≡ after
    → in_order s t' ≡ true
    → CallDone first value after s t (told a) t'
call_done {first = first} {value = value} {after = after} {t = t} none is kept order = record {
  said = ap told is ∙ ap (λ x. asked x value) none;
  left = kept ∙ ap (λ x. unless x after (records t)) none;
  same = not_refused first none;
  ordered = λ _. order;
}

pub begin_done :
    (g : Guided) (start : ℕ) (bound : Bound) (size : ℕ) (first : Record) (t t' : List Node)
    → None ≡ first_no (begin_questions g.floor start bound t)
    → bound.b ≤ bound.a
    → size ≡ g.floor.size
    → first ≡ labelled g start 0 start 0
    → records t' ≡ set (replicate (length t) blank) start first
    → ((s : Search) → s.bound.b ≤ s.bound.a → InOrder s 1 1 t')
    → Begun g start bound t (told (record { start = start; bound = bound; size = size; total = 0 })) t'
begin_done g start bound size first t t' none valid sized is kept order =
    let (_, (_, (sized_table, _))) = all_yes (begin_questions g.floor start bound t) (sym none) in
    let long : length t ≡ g.floor.size = eqb-true _ _ sized_table in
    call_done none
    (ap (λ n. record { start = start; bound = bound; size = n; total = 0 }) sized)
    (kept ∙ ap (set (replicate (length t) blank) start) is ∙ ap (λ n. set (replicate n blank) start (labelled g start 0 start 0)) long)
    (order_tested (first_search g start bound) t' 1 1 (order (first_search g start bound) valid))

-- Turns up to a budget, where no question is answered no, and what is told of them.
pub turns_done :
    {g : Guided} {s : Search} {budget whole : ℕ} {first : Option ℕ} {t : List Node} {r : Stopped} {t' : List Node} {a : AdvanceReport}
    → budget ≡ whole
    → None ≡ first
    → TurnsOrdered g s budget t r t'
    → a ≡ stopped_as s r
    → TurnsDone g s whole first t (told a) t'
turns_done {g = g} {s = s} {whole = whole} {first = first} {t = t} {r = r} {t' = t'} same none h is =
    let done : TurnsOrdered g s whole t r t' = subst (λ n. TurnsOrdered g s n t r t') same h in
    call_done none (is ∙ done.said) done.left done.ordered
