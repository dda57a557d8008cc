use Rattle.std.proofs.Common.{drop}
use Rattle.std.specs.List.{AllByRecursion}
use Rattle.db_tree.proofs.image_slot.each_fits.Given as goal

abbrev pub invariant-loop-slot : goal.invariant-loop-slot
invariant-loop-slot g l = AllByRecursion g.T.ImageSlot.IsSlot (drop l.slot-index l.slots) → AllByRecursion g.T.ImageSlot.IsSlot l.slots
