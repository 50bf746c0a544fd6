use Rattle.std.proofs.Common.{sym, ◌∙◌}
use Rattle.table.proofs.OrderRebound.{near_room, near_skipped, near_added, near_only}
use Rattle.table.proofs.wanted.NearWanted.add.Goals as goal

pub insert-requires-clause-room : goal.insert-requires-clause-room
insert-requires-clause-room c = near_room c.args.self.state c.args.self.least c.args.table.now c.args.place c.args.n c.requires.place c.requires.near

pub returns-then-is_near-clause-near : goal.returns-then-is_near-clause-near
returns-then-is_near-clause-near c =
    near_added c.args.self.state c.args.self.least c.args.table.now _ c.args.place c.args.n _ c.by_rank.result c.requires.place
    (sym c.is_near.ensures ∙ c.if-is_near.true) c.requires.near c.by_rank.ensures c.insert.ensures.queue c.insert.ensures.notes c.insert.ensures.frame

pub returns-then-is_near-clause-only : goal.returns-then-is_near-clause-only
returns-then-is_near-clause-only c = near_only c.args.table.now _ _ c.insert.ensures.frame

pub returns-else-is_near-clause-near : goal.returns-else-is_near-clause-near
returns-else-is_near-clause-near c =
    near_skipped c.args.self.state c.args.self.least c.args.table.now c.args.place c.args.n c.requires.place (sym c.is_near.ensures ∙ c.if-is_near.false) c.requires.near
