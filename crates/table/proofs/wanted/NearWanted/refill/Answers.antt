use Rattle.table.proofs.OrderRebound.{only_then, near_from, near_back}
use Rattle.table.proofs.wanted.NearWanted.refill.Goals as goal

pub add-n-requires-clause-near : goal.add-n-requires-clause-near
add-n-requires-clause-near c =
    near_from c.args.self.state c.args.self.least _ _ c.loop-place.place c.loop-place.n c.loop-place.table c.loop-place.invariant.0 c.loop-place.invariant.1

pub loop-place-preserved : goal.loop-place-preserved
loop-place-preserved c =
    let o = c.loop-place.invariant.0 in (
      only_then _ _ _ o c.add-n.ensures.only,
      near_back c.args.self.state c.args.self.least _ _ _ _ _ o c.add-n.ensures.near,
    )
