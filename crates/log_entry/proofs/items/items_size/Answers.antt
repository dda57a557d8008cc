use Rattle.std.proofs.Common.{length, ap, arith}
use Rattle.std.proofs.lemmas.List.Folds.{length-flat_map-take}
use Rattle.log_entry.proofs.ItemLaws.{each_holds}
use Rattle.log_entry.proofs.items.items_size.Goals as goal

pub overflow_add-size : goal.overflow_add-size
overflow_add-size g c =
    let next = length-flat_map-take g.T.Item.item_bytes c.args.items.now c.loop-item.item-index c.item-item.result c.loop-item-test.true in
    let same = ap (λ y. length (g.T.Item.item_bytes y)) c.item-item.is in
    omega (arith, next, same, c.loop-item.invariant, c.size-size.ensures, c.requires.few)

pub size-size-requires : goal.size-size-requires
size-size-requires g c = each_holds g.T.Item.IsItem c.args.items.now c.loop-item.item-index c.item-item.result c.requires.each c.loop-item-test.true c.item-item.is
