use Rattle.frontier.specs.Starting.{Seating}
use Rattle.frontier.proofs.frontier.Frontier.start.Given as goal

abbrev pub invariant-loop-place : goal.invariant-loop-place
invariant-loop-place l = Seating l.search l.cover l.initial.table l.front l.place l.table
