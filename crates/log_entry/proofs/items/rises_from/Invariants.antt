use Rattle.std.proofs.Common.{◌≡◌, drop}
use Rattle.log_entry.specs.Items.{rises_from}
use Rattle.log_entry.proofs.items.rises_from.Given as goal

abbrev pub invariant-loop-item : goal.invariant-loop-item
invariant-loop-item g l = rises_from g.T.Item.before l.last (drop l.item-index l.items) ≡ rises_from g.T.Item.before l.first l.items
