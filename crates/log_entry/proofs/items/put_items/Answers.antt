use Rattle.std.specs.Prelude.{vec_capacity}
use Rattle.log_entry.proofs.ItemLaws.{each_holds, putting_begins, putting_goes_on, items_stop, items_put}
use Rattle.log_entry.proofs.items.put_items.Goals as goal

pub loop-item-init : goal.loop-item-init
loop-item-init g c = putting_begins g.T.Item.item_bytes c.args.out.now.items (vec_capacity c.args.out.now) c.args.items.now

pub loop-item-preserved : goal.loop-item-preserved
loop-item-preserved g c =
    putting_goes_on g.T.Item.item_bytes c.args.out.now.items c.loop-item.out.items c.put.new.out.items (vec_capacity c.args.out.now) (vec_capacity c.loop-item.out) (vec_capacity c.put.new.out)
    c.args.items.now c.loop-item.item-index c.item-item.result c.loop-item-test.true c.item-item.is c.loop-item.invariant c.in_ok-put.ensures.ok c.in_ok-put.ensures.capacity

pub returns-in_err-put : goal.returns-in_err-put
returns-in_err-put g c =
    items_stop g.T.Item.item_bytes c.args.items.now c.loop-item.item-index c.item-item.result c.loop-item-test.true c.item-item.is c.from_residual.ensures.0 c.loop-item.invariant c.in_err-put.ensures

pub returns : goal.returns
returns g c = items_put g.T.Item.item_bytes c.args.items.now c.loop-item.item-index c.loop-item-test.false c.loop-item.invariant

pub put-requires : goal.put-requires
put-requires g c = each_holds g.T.Item.IsItem c.args.items.now c.loop-item.item-index c.item-item.result c.requires c.loop-item-test.true c.item-item.is
