use Rattle.frontier.proofs.Putting.{can_low, can_hope, can_near, can_far, low_put, hope_put, near_put, far_put, put_done}
use Rattle.frontier.proofs.frontier.Frontier.put_record.Goals as goal

pub update-opened-requires : goal.update-opened-requires
update-opened-requires c = can_low c.requires _ _ c.is_open-was.ensures c.want-low.ensures

pub update-requires : goal.update-requires
update-requires c = can_hope c.requires c.update-opened.ensures.frame _ _ c.is_open-was.ensures c.want-hope.ensures

pub update-nears-requires : goal.update-nears-requires
update-nears-requires c = can_near c.requires c.update-opened.ensures.frame c.update.ensures.frame _ _ c.on_near_side.ensures c.want_near-wanted.ensures

pub update-fars-requires : goal.update-fars-requires
update-fars-requires c =
    can_far c.requires c.update-opened.ensures.frame c.update.ensures.frame c.update-nears.ensures.frame _ _ c.on_far_side.ensures c.want_far-wanted.ensures

pub returns : goal.returns
returns c =
    let A = c.update-opened.ensures.frame in
    let B = c.update.ensures.frame in
    let C = c.update-nears.ensures.frame in
    put_done c.requires A B C c.update-fars.ensures.frame _ c.update.result _ _
    (low_put c.requires _ _ _ _ c.is_open-was.ensures c.want-low.ensures c.update-opened.ensures.holds c.update-opened.ensures.count)
    (hope_put c.requires A _ _ _ _ c.is_open-was.ensures c.want-hope.ensures c.update.ensures.holds c.update.ensures.count)
    (near_put c.requires A B _ _ _ _ c.on_near_side.ensures c.want_near-wanted.ensures c.update-nears.ensures.holds c.update-nears.ensures.count)
    (far_put c.requires A B C _ _ _ _ c.on_far_side.ensures c.want_far-wanted.ensures c.update-fars.ensures.holds c.update-fars.ensures.count)
