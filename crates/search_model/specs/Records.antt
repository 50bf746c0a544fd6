-- The records of the places.
use Rattle.std.specs.Prelude.{◌≡◌, ℕ, ◌+◌, ◌≤◌, Bool, List, ◌==◌, slice_index_or}
use Rattle.search_model.specs.declared.records.Record.{Record}

-- The record of a place that is unseen.
abbrev pub blank : Record
blank = record { mark = 0; label = 0; parent = 0; leg = 0; low = 0; hope = 0; steps = 0 }

-- The record of a place; blank off the table.
abbrev pub at : List Record → ℕ → Record
at table place = slice_index_or table place blank

-- An unseen place has no label yet.
abbrev pub is_unseen : Record → Bool
is_unseen r = r.mark == 0

-- An open place has a label and waits to be expanded.
abbrev pub is_open : Record → Bool
is_open r = r.mark == 1

-- f: the label and the low estimate.
abbrev pub f : Record → ℕ
f r = r.label + r.low

-- f̂: the label and the hope estimate.
abbrev pub f_hat : Record → ℕ
f_hat r = r.label + r.hope

-- A seen place is open or closed.
abbrev pub Seen : List Record → ℕ → Type 0
Seen records p = 1 ≤ (at records p).mark

-- The place is open.
abbrev pub Open : List Record → ℕ → Type 0
Open records p = (at records p).mark ≡ 1

-- A closed place has been expanded, and has been given no label since.
abbrev pub Closed : List Record → ℕ → Type 0
Closed records p = (at records p).mark ≡ 2
