use Rattle.std.proofs.Common.{◌≡◌, ◌++◌, drop}
use Rattle.std.specs.List.{AllByRecursion}
use Rattle.log_entry.specs.Body.{IsEntry}
use Rattle.record_tree.specs.declared.tree_change.TreeChange.{TreeChange}
use Rattle.record_tree.specs.Logged.{entry_for}
use Rattle.in_tree.specs.Placing.{placed_sizes, AreLoggable}
use Rattle.in_tree.proofs.writing.change_sizes.Given as goal

abbrev pub invariant-loop-i : goal.invariant-loop-i
invariant-loop-i l = record {
  entries : AllByRecursion (λ (c : TreeChange). IsEntry (entry_for l.txn c.db c.name c.value)) (drop l.i l.changes);
  loggable : AreLoggable (drop l.i l.rooms);
  sizes : l.sizes.items ++ placed_sizes (drop l.i l.changes) (drop l.i l.rooms) ≡ placed_sizes l.changes l.rooms;
}
