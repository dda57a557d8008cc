use Rattle.std.proofs.Common.{◌≡◌, ◌-◌}
use Rattle.log_entry.specs.Items.{items_in}
use Rattle.log_entry.proofs.ItemLaws.{after}
use Rattle.log_entry.proofs.items.read_items.Given as goal

abbrev pub invariant-loop-i : goal.invariant-loop-i
invariant-loop-i g l = after l.items.items (items_in g.T.Item.item_in (l.count - l.i) l.reader) ≡ items_in g.T.Item.item_in l.count l.initial.reader
