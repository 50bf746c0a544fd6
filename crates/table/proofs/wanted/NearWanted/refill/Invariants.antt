use Rattle.table.specs.Rebound.{NearBelow, NearOnly}
use Rattle.table.proofs.wanted.NearWanted.refill.Given as goal

abbrev pub invariant-loop-place : goal.invariant-loop-place
invariant-loop-place l = NearOnly l.initial.table l.table × NearBelow l.self.state l.self.least l.initial.table l.place l.n l.table
