use Rattle.std.proofs.Common.{◌≡◌, ◌++◌, map, drop}
use Rattle.std.specs.List.{AllByRecursion}
use Rattle.log_entry.specs.Body.{IsEntry}
use Rattle.log_entry.specs.Encoding.{size_of}
use Rattle.record_tree.specs.declared.tree_change.TreeChange.{TreeChange}
use Rattle.record_tree.specs.Logged.{entry_for}
use Rattle.in_tree.specs.Filled.{entries_with, AreAllLoggable}
use Rattle.in_tree.proofs.making_new.push_rows.Given as goal

abbrev pub invariant-loop-i : goal.invariant-loop-i
invariant-loop-i l = record {
  entries : AllByRecursion (λ (c : TreeChange). IsEntry (entry_for l.txn c.db c.name c.value)) (drop l.i l.rows);
  loggable : AreAllLoggable (drop l.i l.images);
  sizes : l.sizes.items ++ map size_of (entries_with l.txn (drop l.i l.rows) (drop l.i l.images)) ≡ l.initial.sizes.items ++ map size_of (entries_with l.txn l.rows l.images);
}
