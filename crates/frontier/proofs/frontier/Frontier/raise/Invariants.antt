use Rattle.frontier.specs.Moves.{Rearranged}
use Rattle.frontier.proofs.frontier.Frontier.raise.Given as goal

abbrev pub invariant-loop-place : goal.invariant-loop-place
invariant-loop-place l = Rearranged l.search l.initial.table l.initial.self.cover l.self l.table

abbrev pub decreases-loop-place : goal.decreases-loop-place
decreases-loop-place l = l.self.fars
