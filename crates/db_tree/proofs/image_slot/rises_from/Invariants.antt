use Rattle.std.proofs.Common.{◌≡◌, drop}
use Rattle.log_entry.specs.Items.{rises_from}
use Rattle.db_tree.proofs.image_slot.rises_from.Given as goal

abbrev pub invariant-loop-slot : goal.invariant-loop-slot
invariant-loop-slot g l = rises_from g.T.ImageSlot.before l.last (drop l.slot-index l.slots) ≡ rises_from g.T.ImageSlot.before l.first l.slots
