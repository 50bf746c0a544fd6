-- What each call of a search tells and leaves.
use Rattle.std.specs.Prelude.{◌≡◌, ℕ, true, false, List, length, is_some, Some, None, Option}
use Rattle.floors.specs.Guided.{Guided}
use Rattle.floors.specs.Meaning.{Meaning}
use Rattle.floors.specs.Questions.{first_no, unless}
use Rattle.search_model.specs.declared.bound.Bound.{Bound}
use Rattle.search_model.specs.declared.records.Record.{Record}
use Rattle.search_model.specs.declared.search.Search.{Search}
use Rattle.search_model.specs.Advance.{Answer, Outcome, expansions, going}
use Rattle.search_model.specs.Begin.{first_records, first_search, rebounded}
use Rattle.search_model.specs.Read.{read_route}
use Rattle.reading.specs.Trails.{pair_of, written}
use Rattle.table.specs.declared.node.Node.{Node}
use Rattle.table.specs.Order.{in_order}
use Rattle.table.specs.Table.{records}
use Rattle.search.specs.Questions.{begin_questions, advance_questions, rebound_questions, read_questions}

-- What a call tells: a value, or a refusal by its number.
pub data Told (A : Type 0) : Type 0 where
  told : A → Told A
  refused : ℕ → Told A

-- The value where no question is answered no, otherwise the number of the first that is.
abbrev pub asked : {A : Type 0} → Option ℕ → A → Told A
asked None x = told x
asked (Some number) x = refused number

-- What an advance tells: the answer, the expansions of this call, the low mark, and the search afterwards with its total.
pub record Advance : Type 0 where
  pub answer : Answer
  pub spent : ℕ
  pub mark : Option ℕ
  pub search_after : Search

abbrev pub advance_of : Outcome → Advance
advance_of o = record { answer = o.answer; spent = expansions o; mark = o.mark; search_after = o.search_after }

-- A call over a table t that leaves the table t', where `first` is the number of the first question that is answered no. Where none is,
-- it tells the value and leaves these records, in order for this search; otherwise it tells the number and changes nothing.
pub record CallDone {A : Type 0} (first : Option ℕ) (value : A) (after : List Record) (search_after : Search) (t : List Node) (a : Told A) (t' : List Node) : Type 0 where
  pub said : a ≡ asked first value
  pub left : records t' ≡ unless first after (records t)
  pub same : is_some first ≡ true → t' ≡ t
  pub ordered : is_some first ≡ false → in_order search_after t' ≡ true

-- A begin.
abbrev pub Begun : Guided → ℕ → Bound → List Node → Told Search → List Node → Type 0
Begun g start bound t = CallDone (first_no (begin_questions g.floor start bound t)) (first_search g start bound) (first_records g start) (first_search g start bound) t

-- Turns of a running search up to a budget, with what is told of their outcome.
abbrev pub TurnsTold : {A : Type 0} → (Outcome → A) → Guided → Search → ℕ → Option ℕ → List Node → Told A → List Node → Type 0
TurnsTold tell g s budget first t = CallDone first (tell (going g budget s (records t))) (going g budget s (records t)).records (going g budget s (records t)).search_after t

-- An advance of a running search.
abbrev pub AdvanceDone : Guided → Search → ℕ → List Node → Told Advance → List Node → Type 0
AdvanceDone g s budget t = TurnsTold advance_of g s budget (first_no (advance_questions g.floor s budget t)) t

-- A rebound of a running or settled search.
pub record ReboundDone (s : Search) (bound : Bound) (t : List Node) (a : Told Search) (t' : List Node) : Type 0 where
  pub said : a ≡ asked (first_no (rebound_questions s bound t)) (rebounded bound s)
  pub left : records t' ≡ records t
  pub same : is_some (first_no (rebound_questions s bound t)) ≡ true → t' ≡ t
  pub ordered : is_some (first_no (rebound_questions s bound t)) ≡ false → in_order (rebounded bound s) t' ≡ true

-- A read of a search that is settled on a goal, into a list.
pub record ReadDone (m : Meaning) (s : Search) (goal : ℕ) (t : List Node) (list : List ℕ) (a : Told (ℕ × ℕ)) (list' : List ℕ) : Type 0 where
  pub said : a ≡ asked (first_no (read_questions m s goal t (length list))) (pair_of (read_route m s (records t) goal))
  pub left : list' ≡ unless (first_no (read_questions m s goal t (length list))) (written (read_route m s (records t) goal) list) list
