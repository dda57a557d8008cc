use Rattle.std.proofs.Common.{vec_capacity}
use Rattle.log_entry.proofs.ItemLaws.{HasPut}
use Rattle.log_entry.proofs.items.put_items.Given as goal

abbrev pub invariant-loop-item : goal.invariant-loop-item
invariant-loop-item g l = HasPut g.T.Item.item_bytes l.initial.out.items l.out.items (vec_capacity l.initial.out) (vec_capacity l.out) l.items l.item-index
