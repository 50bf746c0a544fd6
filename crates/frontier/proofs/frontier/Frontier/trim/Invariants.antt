use Rattle.frontier.specs.Endings.{Trimmed}
use Rattle.frontier.proofs.frontier.Frontier.trim.Given as goal

abbrev pub invariant-loop-place : goal.invariant-loop-place
invariant-loop-place l = Trimmed l.search l.initial.table l.least l.place l.self l.table
