-- The two kinds of entry and their orders.
use Rattle.std.specs.Prelude.{Bool, ◌&&◌, ◌||◌, ◌==◌, nat_le, nat_lt}
use Rattle.queue.specs.declared.entry.CostEntry.{CostEntry}
use Rattle.queue.specs.declared.entry.NearEntry.{NearEntry}

-- By cost, then by place.
abbrev pub cost_at_most : CostEntry → CostEntry → Bool
cost_at_most x y = nat_lt x.cost y.cost || (x.cost == y.cost && nat_le x.place y.place)

-- By steps, then by cost, then by place.
abbrev pub near_at_most : NearEntry → NearEntry → Bool
near_at_most x y =
    nat_lt x.steps y.steps
    || (x.steps == y.steps
    && (nat_lt x.cost y.cost || (x.cost == y.cost && nat_le x.place y.place)))
