use Rattle.std.proofs.Common.{◌≡◌, take, length}
use Rattle.std.specs.List.{AllByRecursion}
use Rattle.log_entry.specs.Items.{IsChildSlot}
use Rattle.db_tree.specs.NodeImages.{finished_slots}
use Rattle.db_tree.proofs.tree.DbTree.finish_slots.Given as goal

abbrev pub invariant-loop-i : goal.invariant-loop-i
invariant-loop-i l = record {
  slots : l.slots ≡ finished_slots l.self.levels l.level (take l.i l.children) l.initial.slots;
  height : length l.slots ≡ length l.initial.slots;
  each : AllByRecursion IsChildSlot l.initial.slots → AllByRecursion IsChildSlot l.slots;
}
