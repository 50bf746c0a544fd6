use Rattle.std.proofs.Common.{length, sym, ap, ◌∙◌, subst}
use Rattle.table.specs.Order.{InOrder}
use Rattle.table.specs.Table.{records}
use Rattle.table.proofs.OrderFresh.{fresh_is, fresh_records, fresh_order}
use Rattle.table.proofs.fresh.set_up.Goals as goal

pub returns : goal.returns
returns c =
    let n = length c.args.table.now in
    let start = c.args.start in
    let r = c.args.record in
    let e = c.keep.ensures ∙ fresh_is n start r c.requires.place c.clear.new.table c.seat.new.node c.clear.ensures c.seat.ensures in
    record {
      kept = ap records e ∙ fresh_records n start r c.requires.place;
      order = λ s ba. subst (InOrder s 1 1) (sym e) (fresh_order n start r c.requires.place c.requires.open c.requires.limits s ba);
    }
