-- The number of the question that a fault stands for.
use Rattle.std.specs.Prelude.{ℕ}
use Rattle.search.specs.declared.fault.SearchFault.{SearchFault}
use Rattle.search.specs.declared.fault.SearchFault.TheVariants.{StartOffFloor, BadBound, TableSize, FloorSize, BudgetTooLarge, TableOutOfOrder, ParentsAstray, ListTooShort}

abbrev pub search_number : SearchFault → ℕ
search_number StartOffFloor = 31
search_number BadBound = 32
search_number TableSize = 33
search_number FloorSize = 34
search_number BudgetTooLarge = 35
search_number TableOutOfOrder = 36
search_number ParentsAstray = 37
search_number ListTooShort = 38
